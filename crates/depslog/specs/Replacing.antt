-- Replacing all live bytes at once, by a draft. Assumes nothing.
use Rattle.std.specs.Prelude.{◌≡◌, ℕ, cond, ◌⊎◌, List, length, Err, Result, nat_lt}
use Rattle.medium.specs.declared.Fault.{Fault}
use Rattle.medium.specs.declared.Fault.TheVariants.{Full}
use Rattle.medium.specs.State.{State, settled, none, with_live, with_draft}
use Rattle.medium.specs.Failure.{Fell}
use Rattle.medium.specs.Calls.{Step}

-- s with xs as its live bytes, all durable, and an empty draft
abbrev pub replaced : List ℕ → State → State
replaced xs s = with_live (settled xs) (with_draft none s)

-- A failure meets the old live bytes, or the new ones, which are all durable by then.
abbrev pub Replaced : {A : Type 0} → List ℕ → State → Result A Fault → State → Type 0
Replaced xs s r t = Step (Unit {0}) ⊥ (replaced xs s) (λ u. Fell s.live s u ⊎ Fell (settled xs) s u) s r t

-- The draft is filled and synced; a failure meets the old live bytes.
abbrev pub DraftFilled : {A : Type 0} → List ℕ → State → Result A Fault → State → Type 0
DraftFilled xs s r t = Step (Unit {0}) ⊥ (with_draft (settled xs) s) (Fell s.live s) s r t

-- Bytes that do not fit are refused, and nothing changes; others take the place of all live bytes.
abbrev pub InPlace : {A : Type 0} → List ℕ → State → Result A Fault → State → Type 0
InPlace xs s r t = cond (nat_lt s.capacity (length xs)) ((r ≡ Err Full) × (t ≡ s)) (Replaced xs s r t)
