-- What every table keeps. Assumes nothing.
use Rattle.std.specs.Prelude.{◌≡◌, ℕ, ◌^◌, ◌≤◌, Bool, true, not, ◌&&◌, List, [], ◌∷◌, length, Some, None, Option, nat_le, nat_lt}
use Rattle.terms.specs.Lists.{every, is_in}
use Rattle.terms.specs.Names.{is_name}
use Rattle.image.specs.Tables.{Entry, Table}

-- no two names are equal
abbrev pub distinct : List (List ℕ) → Bool
distinct [] = true
distinct (n ∷ ns) = not (is_in n ns) && distinct ns

-- an entry where n names are known: its time has 64 bits, its inputs are at most 64, and each is known
abbrev pub fits_entry : ℕ → Option Entry → Bool
fits_entry n None = true
fits_entry n (Some e) = nat_lt e.mtime (2 ^ 64) && nat_le (length e.inputs) 64 && every (λ id. nat_lt id n) e.inputs

-- Names have 1 to 120 bytes, none zero, and no two are equal; they are at most 256; each has its entry or none, and every id in an entry is known.
pub record Kept (t : Table) : Type 0 where
  pub few : length t.names ≤ 256
  pub named : every is_name t.names ≡ true
  pub apart : distinct t.names ≡ true
  pub paired : length t.entries ≡ length t.names
  pub fitting : every (fits_entry (length t.names)) t.entries ≡ true
