use Rattle.std.proofs.Common.{◌≡◌, map, is_some, sym, ap, ◌∙◌}
use Rattle.terms.specs.Lists.{is_in}
use Rattle.words.specs.Spelling.{unescaped, name_at}
use Rattle.manifest.specs.Books.{is_made}
use Rattle.manifest.specs.Views.{making}
use Rattle.manifest.proofs.Twice.{made_by, twice-made, twice-past}
use Rattle.manifest.proofs.makers.made_twice.Goals as goal
use Rattle.manifest.proofs.makers.made_twice.Goals.{After-is_some}

-- whether the output in hand is made already
made : (c : After-is_some) → is_made (map (making c.args.text.now c.args.words.now) c.args.statements.now) (name_at c.args.text.now c.in-Some.output.now) ≡ c.is_some.result
made c =
    let M = map (making c.args.text.now c.args.words.now) c.args.statements.now in
    ap (λ bs. is_made M (unescaped bs)) (sym c.of.ensures) ∙ sym (made_by M (unescaped c.of.result.now)) ∙ ap is_some (sym c.maker.ensures) ∙ sym c.is_some.ensures

pub returns-then-is_some : goal.returns-then-is_some
returns-then-is_some c =
    let M = map (making c.args.text.now c.args.words.now) c.args.statements.now in
    sym (twice-made M (name_at c.args.text.now) _ _ _ c.in-Some.ensures.cases.0 (made (goal.at.returns-then-is_some c).After-is_some ∙ c.if-is_some.true)) ∙ c.loop-output.invariant

pub loop-output-preserved : goal.loop-output-preserved
loop-output-preserved c =
    let text = c.args.text.now in
    let M = map (making text c.args.words.now) c.args.statements.now in
    let among = ap (λ bs. is_in (unescaped bs) (map (name_at text) c.in-Some.others.now)) (sym c.of.ensures) ∙ sym c.is_among.ensures ∙ c.if-is_among.false in
    sym (twice-past M (name_at text) _ _ _ c.in-Some.ensures.cases.0 (made (goal.at.loop-output-preserved c).After-is_some ∙ c.if-is_some.false) among) ∙ c.loop-output.invariant
