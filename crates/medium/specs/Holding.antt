-- What a write buffer does: which live bytes it holds back, and what it passes to the medium below. s and hs are the state
-- below and the bytes held before a call, r is the answer, t and hs' are the state below and the bytes held after it.
-- Assumes nothing.
use Rattle.std.specs.Prelude.{◌≡◌, ℕ, ◌+◌, ◌-◌, ◌^◌, ◌<◌, ◌≤◌, true, false, cond, ◌⊎◌, List, [], ◌++◌, length, take, Ok, Err, Result}
use Rattle.medium.specs.declared.Fault.{Fault}
use Rattle.medium.specs.declared.Fault.TheVariants.{Off, Full}
use Rattle.medium.specs.declared.buffer.Sizes.{Sizes}
use Rattle.medium.specs.State.{all, State, with_appended}
use Rattle.medium.specs.Calls.{Appended, Room, NoRoom}

-- the state of a write buffer: its pending live bytes are those below, and then those held
abbrev pub buffered : State → List ℕ → State
buffered s hs = with_appended hs s

-- how many live bytes more a medium has room for
abbrev pub spare : State → ℕ
spare s = s.capacity - length (all s.live)

-- What is held, of xs: what there is room for below, and nothing while the power is off. So each xs has a meaning, and what
-- is held always fits.
abbrev pub kept : State → List ℕ → List ℕ
kept s xs = cond s.power (take (spare s) xs) []

-- what is still held where the state below is t: nothing, where the power is off
abbrev pub lit : State → List ℕ → List ℕ
lit t hs = cond t.power hs []

-- the medium below has l live bytes, and the first h of xs are held
pub record Sizing (s : State) (xs : List ℕ) (l h : ℕ) : Type 0 where
  pub on : s.power ≡ true
  pub below : l ≡ length (all s.live)
  pub held : kept s xs ≡ take h xs
  pub within : h ≤ length xs
  pub room : h ≤ s.capacity - l
  pub small : l + h < 2 ^ 64

-- the sizes are asked for: answered while the power is on, and refused as off else
abbrev pub Sized : State → List ℕ → Result Sizes Fault → Type 0
Sized s xs (Ok z) = Sizing s xs z.below z.held
Sized s xs (Err Off) = s.power ≡ false
Sized s xs (Err Full) = ⊥

-- nothing is held, and nothing is passed
pub record Skipped (hs : List ℕ) (s t : State) : Type 0 where
  pub empty : hs ≡ []
  pub after : t ≡ s

-- some bytes are held, and are passed below as one append
pub record Handed (hs : List ℕ) (s : State) (r : Result (Unit {0}) Fault) (t : State) : Type 0 where
  pub some : 0 < length hs
  pub passed : Appended hs s r t

-- what is held is passed below
abbrev pub Passed : List ℕ → State → Result (Unit {0}) Fault → State → Type 0
Passed hs s (Ok x) t = Skipped hs s t ⊎ Handed hs s (Ok x) t
Passed hs s (Err e) t = Handed hs s (Err e) t

-- a call of a medium, as a relation
abbrev pub Call : Type 1
Call = State → Result (Unit {0}) Fault → State → Type 0

-- what is held was passed below, which left the state between, and then the call was made below
pub record Followed (hs : List ℕ) (call : Call) (s : State) (r : Result (Unit {0}) Fault) (t : State) : Type 0 where
  pub between : State
  pub passed : Passed hs s (Ok tt) between
  pub made : call between r t

-- the append of what is held was not granted, and the call was not made
pub record Stopped (hs : List ℕ) (s : State) (r : Result (Unit {0}) Fault) (t : State) : Type 0 where
  pub fault : Fault
  pub answer : r ≡ Err fault
  pub passed : Passed hs s (Err fault) t

-- what is held is passed below, as one append where there is any, and then, where that was granted, the call is made below
abbrev pub PassedThen : List ℕ → Call → State → Result (Unit {0}) Fault → State → Type 0
PassedThen hs call s r t = Followed hs call s r t ⊎ Stopped hs s r t

-- An append of bs. While the power is off, it is refused; where all would be more than the capacity, it is refused; where
-- no more than 512 bytes are then held, they are only held; any other passes those held and then its own below, and leaves
-- nothing held.
pub data HeldBack (bs : List ℕ) (s : State) (hs : List ℕ) (r : Result (Unit {0}) Fault) (t : State) (hs' : List ℕ) : Type 0 where
  refused_off : s.power ≡ false → r ≡ Err Off → t ≡ s → hs' ≡ hs → HeldBack bs s hs r t hs'
  refused_full : s.power ≡ true → NoRoom s.live (length hs + length bs) s → r ≡ Err Full → t ≡ s → hs' ≡ hs → HeldBack bs s hs r t hs'
  only_held : s.power ≡ true → Room s.live (length hs + length bs) s → length hs + length bs ≤ 512 → r ≡ Ok tt → t ≡ s → hs' ≡ hs ++ bs → HeldBack bs s hs r t hs'
  passed_on : s.power ≡ true → Room s.live (length hs + length bs) s → 512 < length hs + length bs → PassedThen hs (Appended bs) s r t → hs' ≡ [] → HeldBack bs s hs r t hs'
