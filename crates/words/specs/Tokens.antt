-- The words and marks of a line. Assumes nothing.
use Rattle.std.specs.Prelude.{ℕ, zero, suc, ◌-◌, cond, List, [], ◌∷◌, ◌++◌, length, Some, None, Option, ◌==◌}
use Rattle.words.specs.Spelling.{Spelled, word}

-- a mark, the name that a word spells, or what is not understood
pub data Lexeme : Type 0 where
  colon bar bars wrong : Lexeme
  named : List ℕ → Lexeme

-- a word, of which one byte stands before n others; where it is not understood, nor is what follows it
abbrev pub word_begun : Option Spelled → ℕ → List Lexeme × ℕ
word_begun None n = (wrong ∷ [], n)
word_begun (Some s) n = (named s.name ∷ [], s.taken - 1)

-- a bar, and what stands behind it
abbrev pub bar_begun : List ℕ → List Lexeme × ℕ
bar_begun [] = (bar ∷ [], 0)
bar_begun (c ∷ cs) = cond (c == 124) (bars ∷ [], 1) (bar ∷ [], 0)

-- what a byte that is no space begins, and how many of the bytes behind it belong to that
abbrev pub struck : ℕ → List ℕ → List Lexeme × ℕ
struck b bs = cond (b == 58) (colon ∷ [], 0) (cond (b == 124) (bar_begun bs) (word_begun (word (b ∷ bs)) (length bs)))

-- the same of any byte: a space begins nothing
abbrev pub begun : ℕ → List ℕ → List Lexeme × ℕ
begun b bs = cond (b == 32) ([], 0) (struck b bs)

-- what stands in a line, of which n bytes are passed over
abbrev pub tokens_past : ℕ → List ℕ → List Lexeme
tokens_past n [] = []
tokens_past zero (b ∷ bs) = (begun b bs).0 ++ tokens_past (begun b bs).1 bs
tokens_past (suc n) (b ∷ bs) = tokens_past n bs

abbrev pub tokens : List ℕ → List Lexeme
tokens line = tokens_past 0 line

-- what stands first in a line behind spaces, nothing at its end, and how many bytes it ends behind
abbrev pub front_token : List ℕ → List Lexeme × ℕ
front_token [] = ([], 0)
front_token (b ∷ bs) =
    let rest = front_token bs in
    cond (b == 32) (rest.0, suc rest.1) ((struck b bs).0, suc (struck b bs).1)
