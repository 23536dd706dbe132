use Rattle.std.proofs.Common.{Bool, sym, ◌∙◌, rules}
use Rattle.std.proofs.lemmas.Iterator.{YieldsList-from_slice}
use Rattle.std.proofs.lemmas.Iterator.Search.{position_from_yields_List}
use Rattle.lists.proofs.Finds.{place-is, place-first}
use Rattle.lists.proofs.lookup.first.Goals as goal

pub returns-clause-place : goal.returns-clause-place
returns-clause-place g c =
    let P : g.row.T.Denot → Bool = λ x. g.C.Keys.has c.args.context.now x c.args.asked in
    position_from_yields_List P _ _ c.position.result c.position.ensures.ran (YieldsList-from_slice c.args.list.now cc) (λ x b q k. (search rules, search rules)) ∙ sym (place-is P c.args.list.now)

pub returns-clause-first : goal.returns-clause-first
returns-clause-first g c = place-first (λ x. g.C.Keys.has c.args.context.now x c.args.asked) c.args.list.now c.position.result (returns-clause-place g c)
