-- Whole images, notes within the limits, and notes that agree with a table. Assumes nothing.
use Rattle.std.specs.Prelude.{◌≡◌, ℕ, ◌^◌, ◌<◌, ◌≤◌, true, List, [], ◌∷◌, length, None}
use Rattle.terms.specs.Lists.{every}
use Rattle.terms.specs.Names.{is_name}
use Rattle.image.specs.Tables.{Table}
use Rattle.image.specs.Kept.{Kept}
use Rattle.image.specs.Scans.{has_header, scanned, known, over_limit}
use Rattle.notes.specs.Notes.{Note, entry_of, names_of, note_table}
use Rattle.notes.specs.Latest.{latest}

-- An image all of whose bytes are good: it begins with the header, its records are within the limits and reach to its end, none is bad, and what they tell is
-- kept. So it is refused neither for its header nor for a limit.
pub record Whole (image : List ℕ) : Type 0 where
  pub headed : has_header image ≡ true
  pub within : over_limit image ≡ None
  pub reaches : (scanned image).past ≡ length image
  pub clean : (scanned image).tail ≡ None
  pub kept : Kept (known image)

-- a note within the limits, where a table is known
pub record Fitting (t : Table) (n : Note) : Type 0 where
  pub named : every is_name (names_of n) ≡ true
  pub few : length n.says.inputs ≤ 64
  pub timed : n.says.mtime < 2 ^ 64
  pub room : length (note_table t n).names ≤ 256

-- notes one after the other, each within the limits
abbrev pub AllFit : Table → List Note → Type 0
AllFit t [] = Unit {0}
AllFit t (n ∷ ns) = Fitting t n × AllFit (note_table t n) ns

-- An image is whole, and this table is what it tells.
pub record Tells (image : List ℕ) (t : Table) : Type 0 where
  pub whole : Whole image
  pub table : known image ≡ t

-- The latest of these notes are exactly the entries of a table.
abbrev pub Agree : List Note → Table → Type 0
Agree ns t = (output : List ℕ) → latest ns output ≡ entry_of t output
