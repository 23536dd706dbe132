-- What a table of the code stands for, and what it learns from one record. Assumes nothing.
use Rattle.std.specs.Prelude.{ℕ, Bool, true, false, cond, not, ◌&&◌, List, ◌∷◌, length, vec_items, nat_lt}
use Rattle.terms.specs.Lists.{every, is_in}
use Rattle.image.specs.declared.table.DepsTable.{DepsTable}
use Rattle.terms.specs.Names.{is_name}
use Rattle.image.specs.Bytes.{path, deps}
use Rattle.image.specs.Reading.{is_known}
use Rattle.image.specs.Tables.{Entry, Table, learn}
use Rattle.image.specs.View.{table_of}

abbrev pub view : DepsTable → Table
view t = table_of (vec_items t.rows)

-- whether a table takes these bytes as the next path: they are a name, which is not known yet, and fewer than 256 are known
abbrev pub takes_path : Table → List ℕ → Bool
takes_path t name = is_name name && not (is_in name t.names) && nat_lt (length t.names) 256

-- what learning a path answers, and leaves: a refusal leaves the table as it is
abbrev pub path_learned : Table → List ℕ → Bool × Table
path_learned t name = cond (takes_path t name) (true, learn t (path name)) (false, t)

-- whether every id of an output's entry is known
abbrev pub takes_deps : Table → ℕ → Entry → Bool
takes_deps t output e = every (is_known t.names) (output ∷ e.inputs)

abbrev pub deps_learned : Table → ℕ → Entry → Bool × Table
deps_learned t output e = cond (takes_deps t output e) (true, learn t (deps output e.mtime e.inputs)) (false, t)
