use Rattle.std.proofs.Common.{ap, ◌∙◌, rules, tests}
use Rattle.std.proofs.lemmas.Iterator.{YieldsList-from_slice}
use Rattle.std.proofs.lemmas.Iterator.Search.{all_from_yields_List}
use Rattle.terms.specs.Lists.{every}
use Rattle.words.specs.Runs.{is_of}
use Rattle.words.proofs.Spans.{every-is, rest_from}
use Rattle.words.proofs.class.all_of.Goals as goal

pub returns : goal.returns
returns c =
    let p = is_of c.args.class in
    all_from_yields_List p _ _ c.all.result c.all.ensures.ran (YieldsList-from_slice c.part.result.now cc) (λ x b q k. search (rules, tests)) ∙
    every-is p c.part.result.now ∙ ap (every p) (c.part.ensures ∙ rest_from c.args.bytes.now c.args.at)
