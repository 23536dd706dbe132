-- What a note is, and what it writes. Assumes nothing.
use Rattle.std.specs.Prelude.{ℕ, Bool, true, false, cond, ◌&&◌, List, [], ◌∷◌, ◌++◌, map, length, Some, None, Option, ◌==◌, slice_index_or}
use Rattle.std.specs.Str.{bytes_eq}
use Rattle.terms.specs.Lists.{is_in, place_in, ◌▷◌}
use Rattle.image.specs.Bytes.{Record, path, deps, records_bytes}
use Rattle.image.specs.Tables.{Entry, Table, learn_all}

-- What is said of an output: the time at which it was made, and the names of what it was made from.
pub record Says : Type 0 where
  pub mtime : ℕ
  pub inputs : List (List ℕ)

-- A note: an output was made at a time from inputs.
pub record Note : Type 0 where
  pub output : List ℕ
  pub says : Says

-- What a table says of an output -----------------------------------------------------------------------------------------

-- the name that has an id
abbrev pub name_of : Table → ℕ → List ℕ
name_of t id = slice_index_or t.names id []

-- what an entry says, its inputs by their names
abbrev pub by_names : Table → Option Entry → Option Says
by_names t None = None
by_names t (Some e) = Some (record { mtime = e.mtime; inputs = map (name_of t) e.inputs })

abbrev pub entry_at : Table → Option ℕ → Option Says
entry_at t None = None
entry_at t (Some id) = by_names t (slice_index_or t.entries id None)

-- what the entry of an output says, if there is one
abbrev pub entry_of : Table → List ℕ → Option Says
entry_of t output = entry_at t (place_in output t.names)

-- What a note writes -----------------------------------------------------------------------------------------------------

-- the same names in the same order
abbrev pub same_names : List (List ℕ) → List (List ℕ) → Bool
same_names [] [] = true
same_names [] (n ∷ ns) = false
same_names (m ∷ ms) [] = false
same_names (m ∷ ms) (n ∷ ns) = bytes_eq m n && same_names ms ns

abbrev pub says_same : Says → Option Says → Bool
says_same s None = false
says_same s (Some e) = s.mtime == e.mtime && same_names s.inputs e.inputs

-- The output's entry has the same mtime and inputs already.
abbrev pub unchanged : Table → Note → Bool
unchanged t n = says_same n.says (entry_of t n.output)

-- a name, unless it is known
abbrev pub unknown : List (List ℕ) → List ℕ → List (List ℕ)
unknown known n = cond (is_in n known) [] (n ∷ [])

-- the names that are not known, each once, in order
abbrev pub new_names : List (List ℕ) → List (List ℕ) → List (List ℕ)
new_names known [] = []
new_names known (n ∷ ns) = unknown known n ++ new_names (known ++ unknown known n) ns

-- the names of a note: the output first, and the inputs in order
abbrev pub names_of : Note → List (List ℕ)
names_of n = n.output ∷ n.says.inputs

-- the names that are known once a note is made, known ones first
abbrev pub extended : List (List ℕ) → Note → List (List ℕ)
extended known n = known ++ new_names known (names_of n)

abbrev pub id_at : Option ℕ → ℕ
id_at None = 0
id_at (Some id) = id

-- the id of a name that is among some
abbrev pub id_in : List (List ℕ) → List ℕ → ℕ
id_in names n = id_at (place_in n names)

abbrev pub deps_of : List (List ℕ) → Note → Record
deps_of names n = deps (id_in names n.output) n.says.mtime (map (id_in names) n.says.inputs)

-- One path record for each unknown name, output first and inputs in order, then the deps record; nothing where the entry says the same already.
abbrev pub note_records : Table → Note → List Record
note_records t n = cond (unchanged t n) [] (map path (new_names t.names (names_of n)) ▷ deps_of (extended t.names n) n)

abbrev pub note_bytes : Table → Note → List ℕ
note_bytes t n = records_bytes (length t.names) (note_records t n)

-- what is known then
abbrev pub note_table : Table → Note → Table
note_table t n = learn_all t (note_records t n)

-- Notes one after the other ----------------------------------------------------------------------------------------------

abbrev pub notes_bytes : Table → List Note → List ℕ
notes_bytes t [] = []
notes_bytes t (n ∷ ns) = note_bytes t n ++ notes_bytes (note_table t n) ns

abbrev pub notes_table : Table → List Note → Table
notes_table t [] = t
notes_table t (n ∷ ns) = notes_table (note_table t n) ns
