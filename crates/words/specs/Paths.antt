-- The name of a path, plain or spelled as a word. Assumes nothing.
use Rattle.std.specs.Prelude.{◌≡◌, ℕ, List, [], ◌∷◌, Some, None, Option}
use Rattle.words.specs.declared.path.Path.{Path}
use Rattle.words.specs.declared.path.Path.TheVariants.{Plain, Spelled}
use Rattle.words.specs.Spelling.{unescaped}

abbrev pub path_name : Path → List ℕ
path_name (Plain bytes) = bytes.now
path_name (Spelled word) = unescaped word.now

-- the first byte of the name, and the path of the others
abbrev pub Splits : Path → Option (ℕ × Path) → Type 0
Splits p None = path_name p ≡ []
Splits p (Some r) = path_name p ≡ r.0 ∷ path_name r.1
