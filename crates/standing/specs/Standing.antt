-- The notes that a log stands for. Assumes nothing.
use Rattle.std.specs.Prelude.{◌≡◌, ℕ, ◌≤◌, true, false, ◌⊎◌, List, [], ◌++◌, length, take, None}
use Rattle.image.specs.Kept.{Kept}
use Rattle.image.specs.Scans.{has_header, image_of, known, over_limit}
use Rattle.notes.specs.Notes.{Note, notes_bytes, notes_table}
use Rattle.notes.specs.Wholeness.{Whole, AllFit, Agree}
use Rattle.depslog.specs.State.{LogState, live_of}

-- An open log: its durable bytes are a whole image, whose entries are the latest of the firm notes; behind them stand exactly the bytes of the pending notes, and the
-- log knows what all of these tell.
pub record OpenWith (firm pending : List Note) (s : LogState) : Type 0 where
  pub is_open : s.is_open ≡ true
  pub on : s.medium.power ≡ true
  pub whole : Whole s.medium.live.durable
  pub agree : Agree firm (known s.medium.live.durable)
  pub fit : AllFit (known s.medium.live.durable) pending
  pub bytes : s.medium.live.pending ≡ notes_bytes (known s.medium.live.durable) pending
  pub table : s.table ≡ notes_table (known s.medium.live.durable) pending

-- A closed log: nothing is pending, the live bytes are refused neither for their header nor for a limit, and their entries are the latest of the notes.
pub record ClosedWith (notes : List Note) (s : LogState) : Type 0 where
  pub closed : s.is_open ≡ false
  pub quiet : s.medium.live.pending ≡ []
  pub headed : has_header (image_of (live_of s.medium)) ≡ true
  pub within : over_limit (live_of s.medium) ≡ None
  pub kept : Kept (known (live_of s.medium))
  pub agree : Agree notes (known (live_of s.medium))

-- A failure has closed the log: all firm notes and a first part of the pending ones are left.
pub record Shortened (firm pending : List Note) (s : LogState) : Type 0 where
  pub count : ℕ
  pub part : count ≤ length pending
  pub stands : ClosedWith (firm ++ take count pending) s

-- a log that stands for some notes
abbrev pub Sound : LogState → Type 0
Sound s = ((firm : List Note) × (pending : List Note) × OpenWith firm pending s) ⊎ ((notes : List Note) × ClosedWith notes s)
