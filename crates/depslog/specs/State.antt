-- What a log stands for. Assumes nothing.
use Rattle.std.specs.Prelude.{ℕ, Bool, true, false, cond, List}
use Rattle.medium.specs.State.{State, all}
use Rattle.image.specs.Tables.{Table, bare}
use Rattle.image.specs.Learning.{view}
use Rattle.depslog.specs.declared.log.Log.{Log}

-- whether the log is open, what it knows, and its medium; a closed log knows nothing
pub record LogState : Type 0 where
  pub is_open : Bool
  pub table : Table
  pub medium : State

-- a closed log on a medium
abbrev pub closed_on : State → LogState
closed_on m = record { is_open = false; table = bare; medium = m }

-- an open log that knows t
abbrev pub open_on : Table → State → LogState
open_on t m = record { is_open = true; table = t; medium = m }

-- the same log on the medium in another state
abbrev pub with_medium : State → LogState → LogState
with_medium m s = record { is_open = s.is_open; table = s.table; medium = m }

-- the live bytes
abbrev pub live_of : State → List ℕ
live_of m = all m.live

-- what a log over a medium of type M stands for, by what the medium stands for
abbrev pub state_of : {M : Type 0} → (M → State) → Log M → LogState
state_of state l = cond l.open (open_on (view l.table) (state l.medium)) (closed_on (state l.medium))
