use Rattle.std.proofs.Common.{◌≡◌, ℕ, ◌+◌, ◌-◌, suc, refl, sym, ap, ◌∙◌, arith}
use Rattle.image.specs.Reading.{trimmed, unpadded}
use Rattle.image.proofs.Loops.{strip-step}
use Rattle.image.proofs.words.unpadded.Goals as goal

pub loop-init : goal.loop-init
unfolding unpadded
loop-init c = refl

pub loop-preserved : goal.loop-preserved
loop-preserved c =
    let e : 3 - c.loop.counter ≡ suc (3 - (c.loop.counter + 1)) = omega arith in
    strip-step (3 - (c.loop.counter + 1)) c.loop.name c.strip_suffix.result c.unwrap_or-name.result c.strip_suffix.ensures.cases c.unwrap_or-name.ensures ∙
    ap (λ (n : ℕ). trimmed n c.loop.name.now) (sym e) ∙ c.loop.invariant

pub returns : goal.returns
returns c =
    let e : 0 ≡ 3 - c.loop.counter = omega arith in
    ap (λ (n : ℕ). trimmed n c.loop.name.now) e ∙ c.loop.invariant
