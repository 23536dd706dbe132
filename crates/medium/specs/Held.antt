-- What a write buffer holds in its array. Assumes nothing.
use Rattle.std.specs.Prelude.{ℕ, List, take}
use Rattle.medium.specs.declared.held.Held.{Held}

-- the bytes, in order
abbrev pub items : Held → List ℕ
items h = take h.len h.bytes
