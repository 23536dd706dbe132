-- What a failure of the power leaves: the one rule that every failure follows. Assumes nothing.
use Rattle.std.specs.Prelude.{◌≡◌, ℕ, ◌≤◌, false, [], length}
use Rattle.medium.specs.State.{Bytes, all, cut, State}

-- The power of a medium at state s failed, with b as the live bytes that it met, and left t: the power is off, the capacity
-- is the same, the live bytes are the durable ones of b and a first part of its pending ones, all durable, and the draft
-- is any bytes, none pending and no more than the capacity.
pub record Fell (b : Bytes) (s t : State) : Type 0 where
  pub off : t.power ≡ false
  pub same : t.capacity ≡ s.capacity
  pub kept : ℕ
  pub live : t.live ≡ cut kept b
  pub draft_quiet : t.draft.pending ≡ []
  pub draft_fits : length (all t.draft) ≤ s.capacity
