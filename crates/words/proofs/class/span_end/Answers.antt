use Rattle.std.proofs.Common.{ℕ, List, ◌+◌, length, sym, ap, ◌∙◌, rules, tests}
use Rattle.std.proofs.lemmas.List.Folds.{length-prefix_len}
use Rattle.std.proofs.lemmas.Iterator.{YieldsList-from_slice}
use Rattle.std.proofs.lemmas.Iterator.Consumers.{count_from_yields_List}
use Rattle.std.proofs.lemmas.Iterator.Search.{YieldsList-from_take_while}
use Rattle.words.specs.Runs.{is_of, front}
use Rattle.words.proofs.Spans.{length-front, rest_from}
use Rattle.words.proofs.class.span_end.Goals as goal

pub returns-clause-end : goal.returns-clause-end
returns-clause-end c =
    let p = is_of c.args.class in
    let rest = c.part-rest.result.now in
    let k = count_from_yields_List c.take_while.result c.count.result c.count.ensures.ran (YieldsList-from_take_while _ p (YieldsList-from_slice rest cc) c.take_while.ensures.closure c.take_while.ensures.done (λ x b q k. (search (rules, tests), search (rules, tests)))) in
    ap (λ (n : ℕ). c.args.at + n) (k ∙ length-prefix_len p rest ∙ sym (length-front p rest) ∙ ap (λ (bs : List ℕ). length (front p bs)) (c.part-rest.ensures ∙ rest_from c.args.bytes.now c.args.at))
