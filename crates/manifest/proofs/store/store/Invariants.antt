use Rattle.std.proofs.Common.{◌≡◌, drop, take}
use Rattle.lists.specs.Grown.{items, room}
use Rattle.words.specs.Tokens.{tokens}
use Rattle.manifest.specs.Building.{names_of}
use Rattle.manifest.specs.Left.{tokens_left}
use Rattle.manifest.proofs.Stores.{Storing}
use Rattle.manifest.proofs.store.store.Given as goal

-- the places so far and the words that are left give the answer
abbrev pub invariant-loop-word : goal.invariant-loop-word
invariant-loop-word l =
    (goal.iterator-loop-word).can_next l.word-iterator
    × (goal.iterator-loop-word).is_finite l.word-iterator
    × (l.word-iterator.bytes.now ≡ take l.line.end l.line.text.now)
    × Storing l.line.text.now (items l.initial.words) (items l.words) (names_of (tokens_left l.word-iterator)) (names_of (tokens (drop l.at (take l.line.end l.line.text.now))))
    × (room l.words ≡ room l.initial.words)
