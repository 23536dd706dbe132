-- Decimal numbers, digit by digit. Assumes nothing.
use Rattle.std.proofs.Common.{◌≡◌, ℕ, ◌+◌, ◌-◌, ◌*◌, ◌<◌, ◌≤◌, List, [], ◌∷◌, length, get_or, drop, arith}
use Rattle.std.proofs.lemmas.List.{at_drop_more}
use Rattle.listing.specs.Rows.{decimal}

-- more digits make no smaller number
pub decimal_least : (n : ℕ) (ds : List ℕ) → n ≤ decimal n ds
decimal_least n [] = omega arith
decimal_least n (d ∷ ds) = omega (arith, decimal_least (n * 10 + (d - 48)) ds)

pub decimal-more : (n : ℕ) (ds : List ℕ) (i : ℕ) → i < length ds → decimal n (drop i ds) ≡ decimal (n * 10 + (get_or ds i 0 - 48)) (drop (i + 1) ds)
decimal-more n ds i h = at_drop_more (decimal n) ds i 0 h
