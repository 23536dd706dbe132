-- Appending in pieces what there is room for. Assumes nothing.
use Rattle.std.specs.Prelude.{ℕ, List, Result}
use Rattle.medium.specs.declared.Fault.{Fault}
use Rattle.medium.specs.State.{State, more, with_appended}
use Rattle.medium.specs.Failure.{Fell}
use Rattle.medium.specs.Calls.{Step}

-- All of the bytes are appended, or the power fails on the way, with all of them counted as pending.
abbrev pub AppendedAll : {A : Type 0} → List ℕ → State → Result A Fault → State → Type 0
AppendedAll bs s r t = Step (Unit {0}) ⊥ (with_appended bs s) (Fell (more s.live bs) s) s r t
