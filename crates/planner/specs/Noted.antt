-- An entry as it is asked for. Assumes nothing.
use Rattle.std.specs.Prelude.{ℕ, List}
use Rattle.terms.specs.declared.Found.{Found}

-- the index that it is asked by, its mtime, and the names of its inputs
pub record Noted : Type 0 where
  pub index : ℕ
  pub mtime : ℕ
  pub inputs : List (List ℕ)

abbrev pub found_of : Noted → Found
found_of e = record { index = e.index; mtime = e.mtime }
