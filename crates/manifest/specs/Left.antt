-- The words that are left of a line, up to a mark. Assumes nothing.
use Rattle.std.specs.Prelude.{◌≡◌, ◌+◌, ◌≤◌, List, [], ◌∷◌, length, Some, None, Option}
use Rattle.words.specs.declared.spelling.Word.{Word}
use Rattle.words.specs.Spelling.{name_at}
use Rattle.words.specs.Tokens.{Lexeme, named}
use Rattle.manifest.specs.declared.words_left.WordsLeft.{WordsLeft}
use Rattle.manifest.specs.Building.{names_of}
use Rattle.manifest.specs.Groups.{rest}

-- what stands from the token that was read on
abbrev pub tokens_left : WordsLeft → List Lexeme
tokens_left s = rest s.bytes.now s.token s.next

-- the first of them was taken: it stands within the bytes, and its length is that of its name
pub record TookWord (s : WordsLeft) (w : Word) (t : WordsLeft) : Type 0 where
  pub first : tokens_left s ≡ named (name_at s.bytes.now w.place) ∷ tokens_left t
  pub long : w.length ≡ length (name_at s.bytes.now w.place)
  pub within : w.place.start + w.place.length ≤ length s.bytes.now
  pub on : s.next ≤ t.next
  pub ends : s.next ≤ length s.bytes.now
  pub same : t.bytes.now ≡ s.bytes.now

-- what a turn gives: the first word, or none where none is left
abbrev pub Gives : WordsLeft → Option Word → WordsLeft → Type 0
Gives s None t = (names_of (tokens_left s) ≡ []) × (t.token ≡ s.token) × (t.next ≡ s.next) × (t.bytes.now ≡ s.bytes.now)
Gives s (Some w) t = TookWord s w t
