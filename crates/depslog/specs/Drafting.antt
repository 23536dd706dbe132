-- The parts of a recompaction: drafting records, path records one after the other, and the note that an entry makes. Assumes nothing.
use Rattle.std.specs.Prelude.{ℕ, List, map, Result}
use Rattle.medium.specs.declared.Fault.{Fault}
use Rattle.medium.specs.State.{State, with_drafted}
use Rattle.medium.specs.Failure.{Fell}
use Rattle.medium.specs.Calls.{Step}
use Rattle.image.specs.Bytes.{path, records_bytes}
use Rattle.image.specs.Tables.{Entry, Table, learn_all}
use Rattle.notes.specs.Notes.{Note, name_of}

-- All of the bytes are drafted, or the power fails on the way, which meets the old live bytes.
abbrev pub DraftedAll : {A : Type 0} → List ℕ → State → Result A Fault → State → Type 0
DraftedAll bs s r t = Step (Unit {0}) ⊥ (with_drafted bs s) (Fell s.live s) s r t

-- the path records of some names, whose ids go on from `id`
abbrev pub paths_bytes : ℕ → List (List ℕ) → List ℕ
paths_bytes id ns = records_bytes id (map path ns)

-- what is known with these names besides
abbrev pub with_names : Table → List (List ℕ) → Table
with_names t ns = learn_all t (map path ns)

-- the note that an entry of a table makes
abbrev pub note_at : Table → ℕ → Entry → Note
note_at t id e = record { output = name_of t id; says = record { mtime = e.mtime; inputs = map (name_of t) e.inputs } }
