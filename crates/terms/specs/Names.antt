-- What a name is. Assumes nothing.
use Rattle.std.specs.Prelude.{ℕ, Bool, not, ◌&&◌, List, length, nat_eq, nat_le}
use Rattle.terms.specs.Lists.{some}

abbrev pub holds_zero : List ℕ → Bool
holds_zero bytes = some (nat_eq 0) bytes

-- A name has 1 to 120 bytes, none of them zero.
abbrev pub is_name : List ℕ → Bool
is_name bytes = nat_le 1 (length bytes) && nat_le (length bytes) 120 && not (holds_zero bytes)
