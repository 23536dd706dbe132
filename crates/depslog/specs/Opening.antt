-- The parts of an open: copying the live bytes, and mending them. m is the medium before and n after. Assumes nothing.
use Rattle.std.specs.Prelude.{◌≡◌, ℕ, ◌<◌, ◌≤◌, true, false, cond, ◌⊎◌, List, length, Ok, Err, Result, nat_lt}
use Rattle.medium.specs.declared.Fault.{Fault}
use Rattle.medium.specs.declared.Fault.TheVariants.{Off}
use Rattle.medium.specs.declared.Fault.TheVariants as fault
use Rattle.medium.specs.State.{State, with_power}
use Rattle.medium.specs.Calls.{Synced}
use Rattle.terms.specs.declared.Refusal.{Refusal}
use Rattle.terms.specs.declared.Refusal.TheVariants.{PowerOff, PowerLost, Full, CopyShort}
use Rattle.image.specs.Scans.{good_bytes}
use Rattle.depslog.specs.State.{live_of}
use Rattle.depslog.specs.Checks.{mends}
use Rattle.depslog.specs.Replacing.{Replaced}
use Rattle.depslog.specs.Calls.{Doing, copied}

-- the refusal for a medium's fault once the live bytes are copied
abbrev pub lost_by : Fault → Refusal
lost_by Off = PowerLost
lost_by fault.Full = Full

-- the power does not return
pub record CopyDark (m : State) (buffer : List ℕ) (r : Result ℕ Refusal) (n : State) (after : List ℕ) : Type 0 where
  pub dark : m.power ≡ false
  pub answer : r ≡ Err PowerOff
  pub medium : n ≡ m
  pub copy : after ≡ buffer

-- the power is on, and the buffer is too short
pub record CopyTooShort (m : State) (buffer : List ℕ) (r : Result ℕ Refusal) (n : State) (after : List ℕ) : Type 0 where
  pub short : length buffer < length (live_of m)
  pub answer : r ≡ Err (CopyShort (length (live_of m)))
  pub medium : n ≡ with_power true m
  pub copy : after ≡ buffer

-- the power is on, and the buffer's front holds the live bytes
pub record CopyWhole (m : State) (buffer : List ℕ) (r : Result ℕ Refusal) (n : State) (after : List ℕ) : Type 0 where
  pub fits : length (live_of m) ≤ length buffer
  pub answer : r ≡ Ok (length (live_of m))
  pub medium : n ≡ with_power true m
  pub copy : after ≡ copied (live_of m) buffer

pub data CopiedLive (m : State) (buffer : List ℕ) (r : Result ℕ Refusal) (n : State) (after : List ℕ) : Type 0 where
  dark : CopyDark m buffer r n after → CopiedLive m buffer r n after
  short : CopyTooShort m buffer r n after → CopiedLive m buffer r n after
  whole : CopyWhole m buffer r n after → CopiedLive m buffer r n after

-- the medium granted it, or its power was off or failed after the copying
abbrev pub Went : Doing → Result (Unit {0}) Refusal → State → Type 0
Went does r n = ((r ≡ Ok tt) × does (Ok tt) n) ⊎ ((r ≡ Err PowerLost) × does (Err Off) n)

-- refused for want of room, and nothing changed
abbrev pub NoRoom : State → Result (Unit {0}) Refusal → State → Type 0
NoRoom m r n = (r ≡ Err Full) × (n ≡ m)

-- bytes are put in the place of the live ones, where there is room
abbrev pub PutInPlace : List ℕ → State → Result (Unit {0}) Refusal → State → Type 0
PutInPlace bytes m r n = cond (nat_lt m.capacity (length bytes)) (NoRoom m r n) (Went (Replaced bytes m) r n)

-- the good bytes of `live` are put in their place where they differ from them, and the medium is synced where they do not
abbrev pub MendedLive : List ℕ → State → Result (Unit {0}) Refusal → State → Type 0
MendedLive live m r n = cond (mends live) (PutInPlace (good_bytes live) m r n) (Went (Synced m) r n)
