-- What a note answers, and what it leaves. Assumes nothing.
use Rattle.std.specs.Prelude.{◌≡◌, ℕ, ◌+◌, Bool, true, false, cond, not, ◌&&◌, List, ◌∷◌, length, None, Ok, Err, Option, Result, nat_lt}
use Rattle.medium.specs.declared.Fault.{Fault}
use Rattle.medium.specs.declared.Fault.TheVariants as fault
use Rattle.medium.specs.State.{State}
use Rattle.terms.specs.declared.Place.{Place}
use Rattle.terms.specs.declared.Refusal.{Refusal}
use Rattle.terms.specs.declared.Refusal.TheVariants.{PowerOff, Full, Closed, TooManyInputs, TooManyPaths}
use Rattle.image.specs.Tables.{Table}
use Rattle.notes.specs.Notes.{Note, unchanged, note_bytes, note_table}
use Rattle.notes.specs.Meant.{meant}
use Rattle.depslog.specs.State.{LogState, live_of}
use Rattle.depslog.specs.Checks.{refuse}
use Rattle.depslog.specs.Calls.{Judged, Ended}
use Rattle.depslog.specs.Noting.{name_fault}
use Rattle.depslog.specs.Appending.{AppendedAll}

-- the checks of a note, but for room and power: closed, inputs, name by name, paths
abbrev pub note_fault : (is_open : Bool) → Table → (bytes : List ℕ) (output : Place) (mtime : ℕ) (inputs : List Place) → Option Refusal
note_fault is_open t bytes output mtime inputs =
    refuse Closed (not is_open)
    (refuse TooManyInputs (nat_lt 64 (length inputs))
    (name_fault bytes 0 (output ∷ inputs)
    (refuse TooManyPaths (nat_lt 256 (length (note_table t (meant bytes output mtime inputs)).names)) None)))

-- no room for these bytes, where the medium answers how many it has
abbrev pub no_room : State → List ℕ → Bool
no_room m bs = m.power && nat_lt m.capacity (length (live_of m) + length bs)

-- A note that says nothing new is granted, and nothing is written. Any other is refused where there is no room for its bytes; else they are appended, and the log
-- knows what the note tells, or the power is off or fails.
abbrev pub NewlyNoted : Note → LogState → Result (Unit {0}) Refusal → LogState → Type 0
NewlyNoted n s r t =
    Judged (refuse Full (no_room s.medium (note_bytes s.table n)) None) s r t
    (Ended (AppendedAll (note_bytes s.table n) s.medium) (note_table s.table n) tt PowerOff r t)

abbrev pub NotedLog : List ℕ → Place → ℕ → List Place → LogState → Result (Unit {0}) Refusal → LogState → Type 0
NotedLog bytes output mtime inputs s r t =
    Judged (note_fault s.is_open s.table bytes output mtime inputs) s r t
    (cond (unchanged s.table (meant bytes output mtime inputs)) ((r ≡ Ok tt) × (t ≡ s)) (NewlyNoted (meant bytes output mtime inputs) s r t))

-- All of the bytes were appended; or there was no room, and nothing changed; or the power was off or failed.
abbrev pub WrittenOn : List ℕ → State → Result (Unit {0}) Fault → State → Type 0
WrittenOn bs m (Ok x) n = (no_room m bs ≡ false) × AppendedAll {A = Unit {0}} bs m (Ok tt) n
WrittenOn bs m (Err fault.Full) n = (no_room m bs ≡ true) × (n ≡ m)
WrittenOn bs m (Err fault.Off) n = (no_room m bs ≡ false) × AppendedAll {A = Unit {0}} bs m (Err fault.Off) n
