use Rattle.std.proofs.Common.{◌≡◌, map, drop}
use Rattle.image.specs.Bytes.{path}
use Rattle.image.specs.Tables.{learn_all}
use Rattle.image.specs.Laws.{AllWritable}
use Rattle.image.specs.Learning.{view}
use Rattle.depslog.specs.Texts.{texts}
use Rattle.depslog.proofs.added.Added.learn.Given as goal

-- what is left to be learned may be, and gives the answer
abbrev pub invariant-loop-name : goal.invariant-loop-name
invariant-loop-name l =
    AllWritable (view l.table) (map path (texts (drop l.name-index l.name-items)))
    × (learn_all (view l.table) (map path (texts (drop l.name-index l.name-items))) ≡ learn_all (view l.initial.table) (map path (texts l.name-items)))
