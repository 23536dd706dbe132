use Rattle.std.proofs.Common.{◌≡◌, ℕ, ◌<◌, true, ltb, length, sym, ap, ◌∙◌, arith, rules, tests}
use Rattle.std.proofs.lemmas.Iterator.{YieldsList-from_slice}
use Rattle.std.proofs.lemmas.Iterator.Search.{all_from_yields_List}
use Rattle.std.proofs.lemmas.Bool.{and_from, lt-ltb}
use Rattle.terms.specs.Lists.{every}
use Rattle.image.specs.Reading.{is_known}
use Rattle.image.specs.View.{entry_of}
use Rattle.image.specs.Learning.{view}
use Rattle.image.proofs.Chunks.{all-every}
use Rattle.image.proofs.table.DepsTable.learn_deps.Goals as goal

pub add_deps-requires : goal.add_deps-requires
add_deps-requires c =
    let t = c.args.self.now in
    let e = c.args.entry.now in
    let o = c.args.output in
    let count = c.path_count-count.result in
    let names = (view t).names in
    let known : every (λ id. ltb id count) (entry_of e).inputs ≡ true =
    sym (all-every (λ id. ltb id count) (entry_of e).inputs) ∙
    sym (all_from_yields_List (λ id. ltb id count) _ _ c.all.result c.all.ensures.ran (YieldsList-from_slice (entry_of e).inputs (c.iter.ensures.rest ∙ c.inputs.ensures.ids)) (λ x b q k. search (rules, tests))) ∙
    c.if-not-all.false in
    let h : o < length names = omega (arith, c.path_count-count.ensures.count, c.if-output-count.false) in
    let i : every (is_known names) (entry_of e).inputs ≡ true = ap (λ (k : ℕ). every (λ id. ltb id k) (entry_of e).inputs) (sym c.path_count-count.ensures.count) ∙ known in
    and_from (is_known names o) (every (is_known names) (entry_of e).inputs) (lt-ltb o (length names) h) i
