-- What a token of the code stands for. Assumes nothing.
use Rattle.std.specs.Prelude.{◌≡◌, ℕ, ◌+◌, ◌<◌, ◌≤◌, List, [], ◌∷◌, length, Some, None, Option}
use Rattle.words.specs.declared.token.Token.{Token}
use Rattle.words.specs.declared.token.Token.TheVariants.{Colon, Bar, Bars, Wrong, Word, End}
use Rattle.words.specs.Spelling.{name_at}
use Rattle.words.specs.Tokens.{Lexeme, colon, bar, bars, wrong, named, front_token}

abbrev pub shown : List ℕ → Token → List Lexeme
shown bytes Colon = colon ∷ []
shown bytes Bar = bar ∷ []
shown bytes Bars = bars ∷ []
shown bytes Wrong = wrong ∷ []
shown bytes (Word w) = named (name_at bytes w.place) ∷ []
shown bytes End = []

-- a word's length is that of its name, and it stands between the offset asked and the next
abbrev pub Counted : List ℕ → ℕ → Token → ℕ → Type 0
Counted bytes at Colon next = Unit {0}
Counted bytes at Bar next = Unit {0}
Counted bytes at Bars next = Unit {0}
Counted bytes at Wrong next = Unit {0}
Counted bytes at (Word w) next = (w.length ≡ length (name_at bytes w.place)) × (w.place.start + w.place.length ≡ next) × (at < next) × (next ≤ length bytes)
Counted bytes at End next = Unit {0}

-- a mark stands first, whatever the bytes around it; or a byte that begins none
abbrev pub Marks : List ℕ → Option (Token × ℕ) → Type 0
Marks rest None = (b : ℕ) × (bs : List ℕ) × (rest ≡ b ∷ bs) × (b ≡ 58 → ⊥) × (b ≡ 124 → ⊥)
Marks rest (Some m) =
    ((bytes : List ℕ) → shown bytes m.0 ≡ (front_token rest).0) × (m.1 ≡ (front_token rest).1) × (m.1 ≤ length rest)
    × ((bytes : List ℕ) (at next : ℕ) → Counted bytes at m.0 next)
