-- The note that is meant by bytes and places, and what is found of an output. Assumes nothing.
use Rattle.std.specs.Prelude.{ℕ, List, map, Some, None, Option, slice_index_or}
use Rattle.terms.specs.declared.Found.{Found}
use Rattle.terms.specs.declared.Place.{Place}
use Rattle.terms.specs.Lists.{place_in}
use Rattle.terms.specs.Places.{at_place}
use Rattle.image.specs.Tables.{Entry, Table}
use Rattle.notes.specs.declared.given.Given.{Given}
use Rattle.notes.specs.Notes.{Says, Note, by_names}

-- the note that is meant by bytes and places in them
abbrev pub meant : List ℕ → Place → ℕ → List Place → Note
meant bytes output mtime inputs = record { output = at_place bytes output; says = record { mtime = mtime; inputs = map (at_place bytes) inputs } }

-- the note that a caller gives
abbrev pub given_note : Given → Note
given_note n = meant n.bytes.now n.output n.mtime n.inputs.now

abbrev pub found_at : ℕ → Option Entry → Option Found
found_at id None = None
found_at id (Some e) = Some (record { index = id; mtime = e.mtime })

abbrev pub found_by : Table → Option ℕ → Option Found
found_by t None = None
found_by t (Some id) = found_at id (slice_index_or t.entries id None)

-- the index and the mtime of an output's entry, if there is one
abbrev pub found : Table → List ℕ → Option Found
found t output = found_by t (place_in output t.names)

-- what the entry says that was found
abbrev pub found_says : Table → Option Found → Option Says
found_says t None = None
found_says t (Some f) = by_names t (slice_index_or t.entries f.index None)
