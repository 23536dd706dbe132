use Rattle.std.proofs.Common.{◌≡◌, ◌-◌}
use Rattle.image.specs.Reading.{trimmed, unpadded}
use Rattle.image.proofs.words.unpadded.Given as goal

-- what is left to be trimmed gives the answer
abbrev pub invariant-loop : goal.invariant-loop
invariant-loop l = trimmed (3 - l.counter) l.name ≡ unpadded l.padded
