-- What a recompaction writes. Assumes nothing.
use Rattle.std.specs.Prelude.{ℕ, List, [], ◌∷◌, ◌++◌, Some, None, Option}
use Rattle.std.specs.List.{flat_map}
use Rattle.image.specs.Bytes.{header}
use Rattle.image.specs.Tables.{Table, bare}
use Rattle.notes.specs.Notes.{Says, Note, entry_of, notes_bytes, notes_table}

-- what is said of an output, as a note
abbrev pub note_of : List ℕ → Option Says → List Note
note_of output None = []
note_of output (Some s) = record { output = output; says = s } ∷ []

-- the entry of each of these names that has one
abbrev pub notes_for : Table → List (List ℕ) → List Note
notes_for t names = flat_map (λ (name : List ℕ). note_of name (entry_of t name)) names

-- each output with an entry, by id, as a note
abbrev pub entries_of : Table → List Note
entries_of t = notes_for t t.names

-- the header, and each entry as it would be noted in an empty log
abbrev pub compact_bytes : Table → List ℕ
compact_bytes t = header ++ notes_bytes bare (entries_of t)

-- what is known then
abbrev pub compact_table : Table → Table
compact_table t = notes_table bare (entries_of t)
