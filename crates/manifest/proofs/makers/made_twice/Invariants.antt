use Rattle.std.proofs.Common.{◌≡◌, map, length}
use Rattle.words.specs.Spelling.{name_at}
use Rattle.manifest.specs.Books.{twice}
use Rattle.manifest.specs.Views.{making}
use Rattle.manifest.proofs.makers.made_twice.Given as goal

-- the outputs that are left give the answer
abbrev pub invariant-loop-output : goal.invariant-loop-output
invariant-loop-output l =
    twice (map (making l.text l.words) l.statements) (map (name_at l.text) l.left)
    ≡ twice (map (making l.text l.words) l.statements) (map (name_at l.text) l.outputs)

abbrev pub decreases-loop-output : goal.decreases-loop-output
decreases-loop-output l = length l.left
