use lib.Pointwise.{pointwise}
use Rattle.std.proofs.Common.{◌∙◌, eqb, rules, tests, vec_items}
use Rattle.std.proofs.lemmas.Iterator.{YieldsList-from_slice}
use Rattle.std.proofs.lemmas.Iterator.Search.{position_from_yields_List}
use Rattle.std.proofs.lemmas.Iterator.Adapters.{position_from-zero}
use Rattle.image.specs.View.{name_in}
use Rattle.image.proofs.Lookup.{place-row}
use Rattle.image.proofs.table.DepsTable.id_of.Goals as goal

pub returns : goal.returns
returns c =
    let rows = vec_items c.args.self.now.rows in
    let name = c.args.name.now in
    position_from_yields_List (λ r. pointwise eqb (name_in r) name) _ _ c.position.result c.position.ensures.ran
    (YieldsList-from_slice rows (search rules)) (λ x b q k. search (rules, tests)) ∙
    position_from-zero (λ r. pointwise eqb (name_in r) name) rows ∙ place-row name 0 rows
