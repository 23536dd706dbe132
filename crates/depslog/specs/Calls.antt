-- What each call of the log answers, and what it leaves. s is the log before the call, r the answer and t the log after. Assumes nothing.
use Rattle.std.specs.Prelude.{◌≡◌, ℕ, true, false, cond, ◌⊎◌, List, [], ◌++◌, length, drop, Some, None, Ok, Err, Option, Result, nat_lt, slice_index_or}
use Rattle.std.specs.List.{slice_get}
use Rattle.medium.specs.declared.Fault.{Fault}
use Rattle.medium.specs.declared.Fault.TheVariants.{Off}
use Rattle.medium.specs.State.{State, with_power}
use Rattle.medium.specs.Calls.{Synced, Failed}
use Rattle.terms.specs.declared.Found.{Found}
use Rattle.terms.specs.declared.Refusal.{Refusal}
use Rattle.terms.specs.declared.Refusal.TheVariants.{PowerOff, PowerLost, AlreadyOpen}
use Rattle.image.specs.Tables.{Entry, Table}
use Rattle.image.specs.Scans.{known, good_bytes, scanned}
use Rattle.notes.specs.Meant.{found}
use Rattle.depslog.specs.declared.opened.Opened.{Opened}
use Rattle.depslog.specs.State.{LogState, closed_on, open_on, with_medium, live_of}
use Rattle.depslog.specs.Checks.{mends, open_fault, sync_fault, find_fault}
use Rattle.depslog.specs.Replacing.{Replaced}

-- A refusal by a check changes nothing; where no check refuses, `rest` holds.
abbrev pub Judged : {A : Type 0} → Option Refusal → LogState → Result A Refusal → LogState → Type 0 → Type 0
Judged (Some f) s r t rest = (r ≡ Err f) × (t ≡ s)
Judged None s r t rest = rest

-- what the medium did, by its answer and the state that it was left in
abbrev pub Doing : Type 1
Doing = Result (Unit {0}) Fault → State → Type 0

-- the medium granted all: the call answers x, and the log is open and knows `goal`
pub record Granted {A : Type 0} (does : Doing) (goal : Table) (x : A) (r : Result A Refusal) (t : LogState) : Type 0 where
  pub answer : r ≡ Ok x
  pub done : does (Ok tt) t.medium
  pub after : t ≡ open_on goal t.medium

-- the power was off or failed: the call is refused so, and the log is closed
pub record Lost {A : Type 0} (does : Doing) (refusal : Refusal) (r : Result A Refusal) (t : LogState) : Type 0 where
  pub answer : r ≡ Err refusal
  pub done : does (Err Off) t.medium
  pub after : t ≡ closed_on t.medium

abbrev pub Ended : {A : Type 0} → Doing → Table → A → Refusal → Result A Refusal → LogState → Type 0
Ended does goal x refusal r t = Granted does goal x r t ⊎ Lost does refusal r t

-- Sync syncs the medium.
abbrev pub SyncedLog : LogState → Result (Unit {0}) Refusal → LogState → Type 0
SyncedLog s r t = Judged (sync_fault s.is_open) s r t (Ended (Synced s.medium) s.table tt PowerOff r t)

-- Power failure fails the medium, and the log is closed.
pub record FailedLog (s t : LogState) : Type 0 where
  pub medium : Failed s.medium t.medium
  pub after : t ≡ closed_on t.medium

-- Find -------------------------------------------------------------------------------------------------------------------

abbrev pub fault_or : {A : Type 0} → Option Refusal → A → Result A Refusal
fault_or (Some f) x = Err f
fault_or None x = Ok x

-- what find answers
abbrev pub find_answer : LogState → List ℕ → Result (Option Found) Refusal
find_answer s output = fault_or (find_fault s.is_open output) (found s.table output)

abbrev pub inputs_of : Option Entry → List ℕ
inputs_of None = []
inputs_of (Some e) = e.inputs

abbrev pub name_at : Table → Option ℕ → Option (List ℕ)
name_at t None = None
name_at t (Some id) = slice_get t.names id

-- the name of input k of the entry with an index
abbrev pub input_name : Table → ℕ → ℕ → Option (List ℕ)
input_name t index k = name_at t (slice_get (inputs_of (slice_index_or t.entries index None)) k)

-- Open -------------------------------------------------------------------------------------------------------------------

-- the number of good records, and the tail that was dropped
abbrev pub opened_of : List ℕ → Opened
opened_of live = record { records = length (scanned live).records; tail = (scanned live).tail }

-- the copy buffer once the live bytes are copied: its other bytes stay
abbrev pub copied : (live buffer : List ℕ) → List ℕ
copied live buffer = live ++ drop (length live) buffer

-- Where the good bytes differ from the live ones, they replace these; otherwise the medium is synced.
abbrev pub Mended : State → Doing
Mended m r n = cond (mends (live_of m)) (Replaced (good_bytes (live_of m)) m r n) (Synced m r n)

-- the copy buffer after an open whose power returned: untouched where it is too short
abbrev pub buffer_after : (live buffer : List ℕ) → List ℕ
buffer_after live buffer = cond (nat_lt (length buffer) (length live)) buffer (copied live buffer)

-- an open of an open log is refused, and nothing changes
pub record OpenAlready (s : LogState) (buffer : List ℕ) (r : Result Opened Refusal) (t : LogState) (after : List ℕ) : Type 0 where
  pub is_open : s.is_open ≡ true
  pub answer : r ≡ Err AlreadyOpen
  pub log : t ≡ s
  pub copy : after ≡ buffer

-- the power does not return, and nothing changes
pub record OpenDark (s : LogState) (buffer : List ℕ) (r : Result Opened Refusal) (t : LogState) (after : List ℕ) : Type 0 where
  pub closed : s.is_open ≡ false
  pub dark : s.medium.power ≡ false
  pub answer : r ≡ Err PowerOff
  pub log : t ≡ s
  pub copy : after ≡ buffer

-- The power returns, or is on: refused by a check, the returned power stays; otherwise the good bytes become all the live ones, and the log knows what they
-- tell, or the power fails.
pub record OpenLit (s : LogState) (buffer : List ℕ) (r : Result Opened Refusal) (t : LogState) (after : List ℕ) : Type 0 where
  pub closed : s.is_open ≡ false
  pub judged : Judged (open_fault s.medium.capacity (live_of s.medium) (length buffer)) (with_medium (with_power true s.medium) s) r t
      (Ended (Mended (with_power true s.medium)) (known (live_of s.medium)) (opened_of (live_of s.medium)) PowerLost r t)
  pub copy : after ≡ buffer_after (live_of s.medium) buffer

pub data OpenedLog (s : LogState) (buffer : List ℕ) (r : Result Opened Refusal) (t : LogState) (after : List ℕ) : Type 0 where
  already : OpenAlready s buffer r t after → OpenedLog s buffer r t after
  dark : OpenDark s buffer r t after → OpenedLog s buffer r t after
  lit : OpenLit s buffer r t after → OpenedLog s buffer r t after
