-- What the values of the code stand for. Assumes nothing.
use Rattle.std.specs.Prelude.{ℕ, List, map, Option}
use Rattle.std.specs.Option.{option_map}
use Rattle.terms.specs.Few.{items}
use Rattle.image.specs.declared.name.Name.{Name}
use Rattle.image.specs.declared.entry.DepsEntry.{DepsEntry}
use Rattle.image.specs.declared.row.Row.{Row}
use Rattle.image.specs.Tables.{Entry, Table}

abbrev pub text : Name → List ℕ
text n = items n.bytes

abbrev pub entry_of : DepsEntry → Entry
entry_of e = record { mtime = e.mtime; inputs = items e.inputs }

abbrev pub name_in : Row → List ℕ
name_in r = text r.name

abbrev pub entry_in : Row → Option Entry
entry_in r = option_map entry_of r.entry

abbrev pub table_of : List Row → Table
table_of rows = record { names = map name_in rows; entries = map entry_in rows }
