use Rattle.std.proofs.Common.{◌≡◌, ℕ, ◌+◌, ◌-◌, ◌*◌, ◌<◌, leb, get_or, drop, Some, None, sym, ap, ◌∙◌, arith}
use Rattle.std.proofs.lemmas.List.{at_drop_all}
use Rattle.std.proofs.lemmas.Bool.{cond-true, cond-false, le-leb, lt-leb}
use Rattle.listing.specs.Rows.{decimal}
use Rattle.listing.proofs.Numbers.{decimal_least, decimal-more}
use Rattle.listing.proofs.decimal.number.Goals as goal

pub returns-then-next-gt-LATEST : goal.returns-then-next-gt-LATEST
returns-then-next-gt-LATEST c =
    let ds = c.args.digits.now in
    let n : ℕ = c.digits.value * 10 + (get_or ds c.digits.digit-index 0 - 48) in
    let e : decimal n (drop (c.digits.digit-index + 1) ds) ≡ decimal 0 ds = sym (decimal-more c.digits.value ds c.digits.digit-index c.digits-test.true) ∙ c.digits.invariant.0 in
    let g : 9223372036854775807 < n = omega arith in
    let h : 9223372036854775807 < decimal 0 ds = omega (arith, decimal_least n (drop (c.digits.digit-index + 1) ds)) in
    sym (cond-false (leb (decimal 0 ds) 9223372036854775807) (Some (decimal 0 ds)) None (lt-leb (decimal 0 ds) 9223372036854775807 h))

pub digits-preserved : goal.digits-preserved
digits-preserved c =
    let ds = c.args.digits.now in
    (ap (λ (n : ℕ). decimal n (drop (c.digits.digit-index + 1) ds)) (omega arith) ∙ sym (decimal-more c.digits.value ds c.digits.digit-index c.digits-test.true) ∙ c.digits.invariant.0, c.if-next-gt-LATEST.false)

pub returns : goal.returns
returns c =
    let ds = c.args.digits.now in
    let e : c.digits.value ≡ decimal 0 ds = sym (at_drop_all (decimal c.digits.value) ds c.digits.digit-index c.digits-test.false) ∙ c.digits.invariant.0 in
    ap (λ (n : ℕ). Some n) e ∙ sym (cond-true (leb (decimal 0 ds) 9223372036854775807) (Some (decimal 0 ds)) None (le-leb (decimal 0 ds) 9223372036854775807 (omega (arith, c.digits.invariant.1))))
