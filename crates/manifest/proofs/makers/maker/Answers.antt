use Rattle.std.proofs.Common.{Bool, sym, ◌∙◌, rules}
use Rattle.std.proofs.lemmas.Iterator.{YieldsList-from_slice}
use Rattle.std.proofs.lemmas.Iterator.Search.{position_from_yields_List}
use Rattle.terms.specs.Lists.{is_in}
use Rattle.lists.proofs.Finds.{place-is, place_map}
use Rattle.words.specs.Paths.{path_name}
use Rattle.manifest.specs.declared.rule.Statement.{Statement}
use Rattle.manifest.specs.Books.{Making}
use Rattle.manifest.specs.Views.{making}
use Rattle.manifest.proofs.makers.maker.Goals as goal

pub returns : goal.returns
returns c =
    let text = c.args.text.now in
    let words = c.args.words.now in
    let ss = c.args.statements.now in
    let P : Statement → Bool = λ s. is_in (path_name c.args.name) (making text words s).outputs in
    let Q : Making → Bool = λ m. is_in (path_name c.args.name) m.outputs in
    position_from_yields_List P _ _ c.position.result c.position.ensures.ran (YieldsList-from_slice ss cc) (λ x b q k. search rules) ∙ sym (place-is P ss) ∙ sym (place_map (making text words) 0 Q ss)
