use Rattle.std.proofs.Common.{◌≡◌, ◌+◌, ◌-◌, ◌≤◌, length}
use Rattle.words.specs.Spelling.{word, measured}
use Rattle.words.proofs.spelling.word_at.Given as goal

-- what is left of the word gives the answer
abbrev pub invariant-loop-behind : goal.invariant-loop-behind
invariant-loop-behind l = record {
  same : measured (length l.front - length l.rest) l.length (word l.rest) ≡ measured 0 0 (word l.front);
  within : l.length + length l.rest ≤ length l.front;
}

abbrev pub decreases-loop-behind : goal.decreases-loop-behind
decreases-loop-behind l = length l.rest
