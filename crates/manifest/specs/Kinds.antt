-- What a line of a manifest is. Assumes nothing.
use Rattle.std.specs.Prelude.{ℕ, ◌+◌, ◌≤◌, Bool, cond, not, ◌||◌, List, length, take, codes}
use Rattle.std.specs.Str.{bytes_eq}
use Rattle.terms.specs.Lists.{every}
use Rattle.words.specs.Runs.{is_of}
use Rattle.words.specs.declared.class.Class.TheVariants.{Space, Shown}
use Rattle.manifest.specs.declared.kind.Kind.{Kind}
use Rattle.manifest.specs.declared.kind.Kind.TheVariants.{Skipped, Indented, Unclear, Rule, Build}

-- whether a line begins with these bytes
abbrev pub begins : (start line : List ℕ) → Bool
begins start line = bytes_eq (take (length start) line) start

-- A line empty or of spaces, or one that begins with `#` or `default`, is skipped, whatever else it holds. One that begins with a space belongs to the last
-- rule or statement. Any other that holds a byte below 32, or begins neither with `rule ` nor with `build `, is not understood.
abbrev pub kind_of : List ℕ → Kind
kind_of l =
    cond (every (is_of Space) l || (begins (codes "#") l || begins (codes "default") l)) Skipped
    (cond (begins (codes " ") l) Indented
    (cond (not (every (is_of Shown) l)) Unclear
    (cond (begins (codes "rule ") l) Rule
    (cond (begins (codes "build ") l) Build Unclear))))

-- what stands behind the word that a line begins with is within the line
abbrev pub Behind : Kind → ℕ → ℕ → Type 0
Behind Skipped at n = Unit {0}
Behind Indented at n = Unit {0}
Behind Unclear at n = Unit {0}
Behind Rule at n = at + 5 ≤ n
Behind Build at n = at + 6 ≤ n
