-- What each call of a medium may answer, and what it leaves. s is the state before the call, r the answer and t the state
-- after. Assumes nothing.
use Rattle.std.specs.Prelude.{◌≡◌, ℕ, ◌+◌, ◌-◌, ◌<◌, ◌≤◌, min, true, false, ◌⊎◌, List, ◌++◌, length, take, drop, Ok, Err, Result}
use Rattle.medium.specs.declared.Fault.{Fault}
use Rattle.medium.specs.declared.Fault.TheVariants.{Off, Full}
use Rattle.medium.specs.State.{Bytes, all, more, State, with_power, with_appended, with_synced, with_begun, with_drafted, with_draft_synced, with_promoted}
use Rattle.medium.specs.Failure.{Fell}

-- the call was granted, with the power on and room for its bytes
pub record Granted (room : Type 0) (s goal t : State) : Type 0 where
  pub on : s.power ≡ true
  pub fits : room
  pub after : t ≡ goal

-- the call was refused for want of room, and nothing changed
pub record Refused (full : Type 0) (s t : State) : Type 0 where
  pub on : s.power ≡ true
  pub over : full
  pub after : t ≡ s

-- the power was off already, and nothing changed
pub record Idle (s t : State) : Type 0 where
  pub off : s.power ≡ false
  pub after : t ≡ s

-- the power failed inside the call
pub record Broken (room : Type 0) (falls : State → Type 0) (s t : State) : Type 0 where
  pub on : s.power ≡ true
  pub fits : room
  pub fell : falls t

-- A step towards the state goal: granted, or refused for want of room, or met by a power that is off or that fails inside it.
abbrev pub Step : {A : Type 0} → (room full : Type 0) → (goal : State) → (falls : State → Type 0) → State → Result A Fault → State → Type 0
Step room full goal falls s (Ok x) t = Granted room s goal t
Step room full goal falls s (Err Off) t = Idle s t ⊎ Broken room falls s t
Step room full goal falls s (Err Full) t = Refused full s t

-- b and n bytes more are no more than the capacity of s
abbrev pub Room : Bytes → ℕ → State → Type 0
Room b n s = length (all b) + n ≤ s.capacity

-- b and n bytes more are more than the capacity of s
abbrev pub NoRoom : Bytes → ℕ → State → Type 0
NoRoom b n s = s.capacity < length (all b) + n

-- length: the number of live bytes
abbrev pub Measured : State → Result ℕ Fault → Type 0
Measured s (Ok n) = (s.power ≡ true) × (n ≡ length (all s.live))
Measured s (Err Off) = s.power ≡ false
Measured s (Err Full) = ⊥

-- how many live bytes a read from `from` on copies into a buffer of n bytes: none from the end on
abbrev pub reach : ℕ → State → ℕ → ℕ
reach from s n = min n (length (all s.live) - from)

-- the buffer `old` after a read of n bytes from `from` on: the live bytes at its front, its other bytes as they were
abbrev pub filled : ℕ → ℕ → State → List ℕ → List ℕ
filled from n s old = take n (drop from (all s.live)) ++ drop n old

-- read: the count, and the buffer after it
abbrev pub ReadOut : ℕ → State → List ℕ → Result ℕ Fault → List ℕ → Type 0
ReadOut from s old (Ok n) new = (s.power ≡ true) × (n ≡ reach from s (length old)) × (new ≡ filled from n s old)
ReadOut from s old (Err Off) new = (s.power ≡ false) × (new ≡ old)
ReadOut from s old (Err Full) new = ⊥

-- append: a failure inside counts its bytes as pending
abbrev pub Appended : {A : Type 0} → List ℕ → State → Result A Fault → State → Type 0
Appended bs s r t =
    Step (Room s.live (length bs) s) (NoRoom s.live (length bs) s) (with_appended bs s) (Fell (more s.live bs) s) s r t

-- sync
abbrev pub Synced : {A : Type 0} → State → Result A Fault → State → Type 0
Synced s r t = Step (Unit {0}) ⊥ (with_synced s) (Fell s.live s) s r t

-- draft begin
abbrev pub Begun : {A : Type 0} → State → Result A Fault → State → Type 0
Begun s r t = Step (Unit {0}) ⊥ (with_begun s) (Fell s.live s) s r t

-- draft append
abbrev pub Drafted : {A : Type 0} → List ℕ → State → Result A Fault → State → Type 0
Drafted bs s r t =
    Step (Room s.draft (length bs) s) (NoRoom s.draft (length bs) s) (with_drafted bs s) (Fell s.live s) s r t

-- draft sync
abbrev pub DraftSynced : {A : Type 0} → State → Result A Fault → State → Type 0
DraftSynced s r t = Step (Unit {0}) ⊥ (with_draft_synced s) (Fell s.live s) s r t

-- promote: a failure inside meets the old live bytes, or those of the draft
abbrev pub Promoted : {A : Type 0} → State → Result A Fault → State → Type 0
Promoted s r t = Step (Unit {0}) ⊥ (with_promoted s) (λ u. Fell s.live s u ⊎ Fell s.draft s u) s r t

-- power failure, with the power on or off before
abbrev pub Failed : State → State → Type 0
Failed s t = Fell s.live s t

-- power return: granted, the power is on and nothing else changed; refused, it was off, and nothing changed
abbrev pub Returned : {A : Type 0} → State → Result A Fault → State → Type 0
Returned s (Ok x) t = t ≡ with_power true s
Returned s (Err Off) t = Idle s t
Returned s (Err Full) t = ⊥
