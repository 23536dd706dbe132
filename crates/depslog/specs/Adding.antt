-- What a note adds to a table: its new names, and the output's entry by ids. Assumes nothing.
use Rattle.std.specs.Prelude.{◌≡◌, ℕ, List, [], ◌++◌, map, length}
use Rattle.terms.specs.Few.{items}
use Rattle.terms.specs.Lists.{◌▷◌}
use Rattle.image.specs.Bytes.{path, deps, record_bytes, records_bytes}
use Rattle.image.specs.Tables.{Table, learn_all}
use Rattle.image.specs.Learning.{deps_learned}
use Rattle.image.specs.View.{entry_of}
use Rattle.depslog.specs.Texts.{texts}
use Rattle.notes.specs.Notes.{Note, new_names, names_of, id_in}
use Rattle.depslog.specs.declared.added.Added.{Added}

-- a note without inputs
abbrev pub bare_note : List ℕ → ℕ → Note
bare_note o m = record { output = o; says = record { mtime = m; inputs = [] } }

-- a note with one input more
abbrev pub with_input : Note → List ℕ → Note
with_input n x = record { output = n.output; says = record { mtime = n.says.mtime; inputs = n.says.inputs ▷ x } }

-- the names that are added
abbrev pub names_added : Added → List (List ℕ)
names_added a = texts (items a.names)

-- What is added to table t for the note n: the names that are not known, each once, in order, and the entry by the ids that all names have then.
pub record Adds (t : Table) (n : Note) (a : Added) : Type 0 where
  pub first : a.first ≡ length t.names
  pub names : names_added a ≡ new_names t.names (names_of n)
  pub output : a.output ≡ id_in (t.names ++ names_added a) n.output
  pub entry : entry_of a.entry ≡ record { mtime = n.says.mtime; inputs = map (id_in (t.names ++ names_added a)) n.says.inputs }

-- What is added for a note in a, is added in b for the note with one input more.
abbrev pub AddsMore : Table → List ℕ → Added → Added → Type 0
AddsMore t x a b = (n : Note) → Adds t n a → Adds t (with_input n x) b

-- the path records of the new names, and the deps record
abbrev pub bytes_added : Added → List ℕ
bytes_added a = records_bytes a.first (map path (names_added a)) ++ record_bytes 0 (deps a.output (entry_of a.entry).mtime (entry_of a.entry).inputs)

-- what is known then
abbrev pub learned_added : Added → Table → Table
learned_added a t = (deps_learned (learn_all t (map path (names_added a))) a.output (entry_of a.entry)).1
