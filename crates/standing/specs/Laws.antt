-- The laws of the log. Assumes nothing.
use Rattle.std.specs.Prelude.{◌≡◌, ℕ, ◌^◌, ◌<◌, true, List, [], None, Err, Result, ◌≢◌}
use Rattle.terms.specs.declared.Place.{Place}
use Rattle.terms.specs.declared.Refusal.{Refusal}
use Rattle.terms.specs.declared.Refusal.TheVariants.{NoHeader, OverLimit}
use Rattle.medium.specs.State.{State}
use Rattle.image.specs.Kept.{Kept}
use Rattle.image.specs.Scans.{has_header, image_of, known, over_limit}
use Rattle.notes.specs.Wholeness.{Tells}
use Rattle.depslog.specs.declared.opened.Opened.{Opened}
use Rattle.depslog.specs.State.{LogState, closed_on, live_of}
use Rattle.depslog.specs.Calls.{OpenedLog, SyncedLog, FailedLog}
use Rattle.depslog.specs.NoteCall.{NotedLog}
use Rattle.depslog.specs.Recompacting.{RecompactedLog}
use Rattle.standing.specs.Standing.{Sound}

-- A new log is sound on a medium without live bytes, and on any whose live bytes are durable and would not be refused for their header or a limit.
abbrev pub NewIsSound : Type 0
NewIsSound = (m : State) → m.live.pending ≡ [] → has_header (image_of (live_of m)) ≡ true → over_limit (live_of m) ≡ None → Kept (known (live_of m)) → Sound (closed_on m)

-- Every call keeps a log sound, whatever it answers and wherever the power fails.
pub record CallsKeepSound : Type 0 where
  pub opened : (s t : LogState) (buffer after : List ℕ) (r : Result Opened Refusal) → OpenedLog s buffer r t after → Sound s → Sound t
  pub noted : (s t : LogState) (bytes : List ℕ) (output : Place) (mtime : ℕ) (inputs : List Place) (r : Result (Unit {0}) Refusal) → mtime < 2 ^ 64 → NotedLog bytes output mtime inputs s r t → Sound s → Sound t
  pub synced : (s t : LogState) (r : Result (Unit {0}) Refusal) → SyncedLog s r t → Sound s → Sound t
  pub recompacted : (s t : LogState) (r : Result (Unit {0}) Refusal) → RecompactedLog s r t → Sound s → Sound t
  pub failed : (s t : LogState) → FailedLog s t → Sound s → Sound t

-- The table of an open sound log is what its live bytes tell, and these are whole.
abbrev pub SoundTells : Type 0
SoundTells = (s : LogState) → Sound s → s.is_open ≡ true → Tells (live_of s.medium) s.table

-- An open of a sound log is never refused for the header or for a limit.
abbrev pub SoundOpens : Type 0
SoundOpens = (s t : LogState) (buffer after : List ℕ) (r : Result Opened Refusal) → Sound s → OpenedLog s buffer r t after → (r ≢ Err NoHeader) × ((offset : ℕ) → r ≢ Err (OverLimit offset))
