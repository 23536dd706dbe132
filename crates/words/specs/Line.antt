-- What a line holds, and how the lines of a text follow one another. Assumes nothing.
use Rattle.std.specs.Prelude.{◌≡◌, ℕ, ◌+◌, List, [], ◌∷◌, take, drop, Some, None, Option}
use Rattle.words.specs.declared.line.Line.{Line}
use Rattle.words.specs.declared.text_lines.TextLines.{TextLines}
use Rattle.words.specs.Lines.{lines_of}

-- the bytes of a line
abbrev pub line_bytes : Line → List ℕ
line_bytes l = drop l.at (take l.end l.text.now)

-- the lines that are left of a text
abbrev pub lines_left : TextLines → List (List ℕ)
lines_left s = lines_of (drop s.at s.text.now)

-- none was taken yet
pub record Begins (text : List ℕ) (s : TextLines) : Type 0 where
  pub all : lines_left s ≡ lines_of text
  pub number : s.number ≡ 1
  pub same : s.text.now ≡ text

-- the first of them was taken
pub record Took (s : TextLines) (l : Line) (t : TextLines) : Type 0 where
  pub first : lines_left s ≡ line_bytes l ∷ lines_left t
  pub text : l.text.now ≡ s.text.now
  pub number : l.number ≡ s.number
  pub next : t.number ≡ s.number + 1
  pub same : t.text.now ≡ s.text.now

-- what a turn gives: the first line, or none where none is left
abbrev pub Advances : TextLines → Option Line → TextLines → Type 0
Advances s None t = lines_left s ≡ []
Advances s (Some l) t = Took s l t
