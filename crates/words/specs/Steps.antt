-- What one step along a word says of it. Assumes nothing.
use Rattle.std.specs.Prelude.{ℕ, ◌+◌, ◌-◌, ◌<◌, List, length, Some, None, Ok, Err, Option, Result}
use Rattle.std.specs.Borrow.{Bor}
use Rattle.words.specs.declared.spelling.Word.{Word}
use Rattle.words.specs.declared.spelling.WrongSign.{WrongSign}
use Rattle.words.specs.Spelling.{Spelled, word, measured}

-- the measure of a word after one step along it
abbrev pub stepped : List ℕ → ℕ → ℕ → Result (Option (Bor (List ℕ))) WrongSign → Option (ℕ × ℕ)
stepped rest at n (Err wrong) = None
stepped rest at n (Ok None) = Some (at, n)
stepped rest at n (Ok (Some behind)) = measured (at + (length rest - length behind.now)) (n + 1) (word behind.now)

-- a step leads on
abbrev pub Leads : List ℕ → Result (Option (Bor (List ℕ))) WrongSign → Type 0
Leads rest (Ok (Some behind)) = length behind.now < length rest
Leads rest (Ok None) = Unit {0}
Leads rest (Err wrong) = Unit {0}

-- the word at an offset, as it is handed out
abbrev pub word_of : ℕ → Spelled → Word
word_of start s = record { place = record { start = start; length = s.taken }; length = length s.name }
