-- What a recompaction answers, and what it leaves. Assumes nothing.
use Rattle.std.specs.Prelude.{ℕ, Bool, not, length, None, Option, Result, nat_lt}
use Rattle.terms.specs.declared.Refusal.{Refusal}
use Rattle.terms.specs.declared.Refusal.TheVariants.{PowerOff, Full, Closed}
use Rattle.image.specs.Tables.{Table}
use Rattle.notes.specs.Compacting.{compact_bytes, compact_table}
use Rattle.depslog.specs.Replacing.{Replaced}
use Rattle.depslog.specs.State.{LogState}
use Rattle.depslog.specs.Checks.{refuse}
use Rattle.depslog.specs.Calls.{Judged, Ended}

-- the checks of a recompaction, but for the power: closed, and room for the whole new image
abbrev pub recompact_fault : (is_open : Bool) (capacity : ℕ) → Table → Option Refusal
recompact_fault is_open capacity t = refuse Closed (not is_open) (refuse Full (nat_lt capacity (length (compact_bytes t))) None)

-- The recompacted image takes the place of all live bytes, and the log knows what it tells; or the power is off or fails.
abbrev pub RecompactedLog : LogState → Result (Unit {0}) Refusal → LogState → Type 0
RecompactedLog s r t =
    Judged (recompact_fault s.is_open s.medium.capacity s.table) s r t
    (Ended (Replaced (compact_bytes s.table) s.medium) (compact_table s.table) tt PowerOff r t)
