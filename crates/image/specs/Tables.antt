-- What good records tell: the known names and the entries. Assumes nothing.
use Rattle.std.specs.Prelude.{ℕ, List, [], ◌∷◌, Some, None, Option, slice_set}
use Rattle.terms.specs.Lists.{◌▷◌}
use Rattle.image.specs.Bytes.{Record, path, deps}

-- the mtime and the inputs' ids of an output's last deps record
pub record Entry : Type 0 where
  pub mtime : ℕ
  pub inputs : List ℕ

-- the known names, and for each the entry if there is one; both by id
pub record Table : Type 0 where
  pub names : List (List ℕ)
  pub entries : List (Option Entry)

abbrev pub bare : Table
bare = record { names = []; entries = [] }

-- a record more: a path record adds a name with no entry, a deps record replaces the output's entry
abbrev pub learn : Table → Record → Table
learn t (path name) = record { names = t.names ▷ name; entries = t.entries ▷ None }
learn t (deps output mtime inputs) = record { names = t.names; entries = slice_set t.entries output (Some (record { mtime = mtime; inputs = inputs })) }

abbrev pub learn_all : Table → List Record → Table
learn_all t [] = t
learn_all t (r ∷ rs) = learn_all (learn t r) rs
