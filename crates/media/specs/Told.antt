-- What a medium does whose failures are told: one answer, one state after and one plan after for each call. s is the state
-- before a call and p the plan. Assumes nothing.
use Rattle.std.specs.Prelude.{ℕ, ◌+◌, ◌-◌, Bool, true, false, cond, List, length, Some, None, Option, Ok, Err, Result, ◌==◌, nat_le}
use Rattle.medium.specs.declared.Fault.{Fault}
use Rattle.medium.specs.declared.Fault.TheVariants.{Off, Full}
use Rattle.medium.specs.State.{Bytes, all, none, cut, State, with_power, with_appended, with_synced, with_begun, with_drafted, with_draft_synced, with_promoted}
use Rattle.medium.specs.Calls.{reach, filled}
use Rattle.media.specs.declared.failing.Side.{Side}
use Rattle.media.specs.declared.failing.Side.TheVariants.{Old, Draft}
use Rattle.media.specs.declared.failing.Plan.{Plan}
use Rattle.media.specs.Fill.{whole}

-- an answer, with the state and the plan after the call
pub record Outcome (A : Type 0) : Type 0 where
  pub answer : Result A Fault
  pub after : State
  pub plan : Plan

-- the plan of no failure
abbrev pub never : Plan
never = record { after = None; keep = 0; side = Old }

-- whether no step passes before the one of the failure
abbrev pub due_after : Option ℕ → Bool
due_after None = false
due_after (Some n) = n == 0

-- whether a failure comes at the next step
abbrev pub is_due : Plan → Bool
is_due p = due_after p.after

-- one step less before the one of the failure, which comes once
abbrev pub one_less : Option ℕ → Option ℕ
one_less None = None
one_less (Some n) = cond (n == 0) None (Some (n - 1))

-- the plan after one step more
abbrev pub counted : Plan → Plan
counted p = record { after = one_less p.after; keep = p.keep; side = p.side }

-- what a failure leaves of s that leaves b of the live bytes; the draft is empty
abbrev pub fallen_to : Bytes → State → State
fallen_to b s = record { power = false; capacity = s.capacity; live = b; draft = none }

-- what a failure leaves of s that keeps k of the pending live bytes
abbrev pub fallen : ℕ → State → State
fallen k s = fallen_to (cut k s.live) s

-- a step that answers x and leaves goal; where its failure is due, that meets the state from
abbrev pub stepped : {A : Type 0} → A → State → State → Plan → Outcome A
stepped x from goal p =
    cond (is_due p) (record { answer = Err Off; after = fallen p.keep from; plan = counted p }) (record { answer = Ok x; after = goal; plan = counted p })

-- a refusal, which is no step
abbrev pub refused : {A : Type 0} → Fault → State → Plan → Outcome A
refused e s p = record { answer = Err e; after = s; plan = p }

-- o where the power is on
abbrev pub powered : {A : Type 0} → State → Plan → Outcome A → Outcome A
powered s p o = cond s.power o (refused Off s p)

-- o where the power is on and bs go behind b
abbrev pub roomy : Bytes → List ℕ → State → Plan → Outcome (Unit {0}) → Outcome (Unit {0})
roomy b bs s p o = powered s p (cond (nat_le (length (all b) + length bs) s.capacity) o (refused Full s p))

-- append: a failure counts the bytes in hand as pending
abbrev pub append : List ℕ → State → Plan → Outcome (Unit {0})
append bs s p = roomy s.live bs s p (stepped tt (with_appended bs s) (with_appended bs s) p)

-- sync: all live bytes are durable
abbrev pub sync : State → Plan → Outcome (Unit {0})
sync s p = powered s p (stepped tt s (with_synced s) p)

-- draft begin: the draft is empty, and x is the token
abbrev pub begin : {A : Type 0} → A → State → Plan → Outcome A
begin x s p = powered s p (stepped x s (with_begun s) p)

-- draft append: the bytes are pending ones of the draft
abbrev pub draft_append : List ℕ → State → Plan → Outcome (Unit {0})
draft_append bs s p = roomy s.draft bs s p (stepped tt s (with_drafted bs s) p)

-- draft sync: all bytes of the draft are durable
abbrev pub draft_sync : State → Plan → Outcome (Unit {0})
draft_sync s p = powered s p (stepped tt s (with_draft_synced s) p)

-- the state of s that a failure inside a promote meets
abbrev pub met : Side → State → State
met Old s = s
met Draft s = with_promoted s

-- promote: a failure meets the old live bytes, or those of the draft
abbrev pub promote : State → Plan → Outcome (Unit {0})
promote s p = powered s p (stepped tt (met p.side s) (with_promoted s) p)

-- power return: it is always granted
abbrev pub power_return : State → Plan → Outcome (Unit {0})
power_return s p = record { answer = Ok tt; after = with_power true s; plan = p }

-- the answer of length
abbrev pub measure : State → Result ℕ Fault
measure s = cond s.power (Ok (length (all s.live))) (Err Off)

-- the answer of a read from `from` on into a buffer of n bytes
abbrev pub count : ℕ → State → ℕ → Result ℕ Fault
count from s n = cond s.power (Ok (reach from s n)) (Err Off)

-- the buffer `old` after that read
abbrev pub copied : ℕ → State → List ℕ → List ℕ
copied from s old = cond s.power (filled from (reach from s (length old)) s old) old

-- a power failure that keeps whole pages
abbrev pub fallen_whole : State → State
fallen_whole s = fallen_to (whole s.live) s
