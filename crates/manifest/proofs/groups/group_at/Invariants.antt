use Rattle.std.proofs.Common.{◌≡◌, length}
use Rattle.manifest.specs.Building.{names_of}
use Rattle.manifest.specs.Left.{tokens_left}
use Rattle.manifest.proofs.Marks.{Turn}
use Rattle.manifest.proofs.groups.group_at.Given as goal

-- what is left of the words gives the answer
abbrev pub invariant-loop-word : goal.invariant-loop-word
invariant-loop-word l = record {
  same : l.words.bytes.now ≡ l.bytes;
  turn : Turn l.bytes l.at l.count l.long (tokens_left l.words);
}

abbrev pub decreases-loop-word : goal.decreases-loop-word
decreases-loop-word l = length (names_of (tokens_left l.words))
