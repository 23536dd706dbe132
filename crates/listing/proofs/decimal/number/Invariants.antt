use Rattle.std.proofs.Common.{◌≡◌, ◌≤◌, drop}
use Rattle.listing.specs.Rows.{decimal}
use Rattle.listing.proofs.decimal.number.Given as goal

-- the digits that are left give the number
abbrev pub invariant-digits : goal.invariant-digits
invariant-digits l = (decimal l.value (drop l.digit-index l.digits) ≡ decimal 0 l.digits) × (l.value ≤ 9223372036854775807)
