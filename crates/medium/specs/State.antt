-- What a medium holds, as its user sees it, and how each call changes it where it is granted. Assumes nothing.
use Rattle.std.specs.Prelude.{ℕ, Bool, List, [], ◌++◌, take}

-- bytes in order: those that outlast a failure of the power, and after them those that may be lost
pub record Bytes : Type 0 where
  pub durable : List ℕ
  pub pending : List ℕ

-- the durable bytes, and then the pending ones
abbrev pub all : Bytes → List ℕ
all b = b.durable ++ b.pending

-- xs, all durable
abbrev pub settled : List ℕ → Bytes
settled xs = record { durable = xs; pending = [] }

-- no bytes
abbrev pub none : Bytes
none = settled []

-- b, and after it xs as pending bytes
abbrev pub more : Bytes → List ℕ → Bytes
more b xs = record { durable = b.durable; pending = b.pending ++ xs }

-- the durable bytes of b and the first k of its pending ones, or all where there are fewer; all durable
abbrev pub cut : ℕ → Bytes → Bytes
cut k b = settled (b.durable ++ take k b.pending)

-- a medium: whether its power is on, how many bytes each list has room for, the live bytes and those of the draft
pub record State : Type 0 where
  pub power : Bool
  pub capacity : ℕ
  pub live : Bytes
  pub draft : Bytes

-- s with its power on or off, as p says
abbrev pub with_power : Bool → State → State
with_power p s = record { power = p; capacity = s.capacity; live = s.live; draft = s.draft }

-- s with b as its live bytes
abbrev pub with_live : Bytes → State → State
with_live b s = record { power = s.power; capacity = s.capacity; live = b; draft = s.draft }

-- s with b as its draft
abbrev pub with_draft : Bytes → State → State
with_draft b s = record { power = s.power; capacity = s.capacity; live = s.live; draft = b }

-- s after an append of bs
abbrev pub with_appended : List ℕ → State → State
with_appended bs s = with_live (more s.live bs) s

-- s after a sync
abbrev pub with_synced : State → State
with_synced s = with_live (settled (all s.live)) s

-- s after a draft begin
abbrev pub with_begun : State → State
with_begun s = with_draft none s

-- s after a draft append of bs
abbrev pub with_drafted : List ℕ → State → State
with_drafted bs s = with_draft (more s.draft bs) s

-- s after a draft sync
abbrev pub with_draft_synced : State → State
with_draft_synced s = with_draft (settled (all s.draft)) s

-- s after a promote: the draft is live, durable as durable and pending as pending, and the draft is empty
abbrev pub with_promoted : State → State
with_promoted s = with_live s.draft (with_draft none s)
