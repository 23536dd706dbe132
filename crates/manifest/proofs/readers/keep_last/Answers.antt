use Rattle.std.proofs.Common.{◌≡◌, ◌-◌, List, map, length, Some, sym, ap, ◌∙◌, subst}
use Rattle.std.specs.List.{slice_get}
use Rattle.lists.specs.Grown.{items}
use Rattle.manifest.specs.declared.rule.Rule.{Rule}
use Rattle.manifest.specs.Views.{declaration}
use Rattle.manifest.proofs.Lines.{kept-last}
use Rattle.manifest.proofs.readers.keep_last.Goals as goal

pub returns-clause-kept : goal.returns-clause-kept
returns-clause-kept c text =
    let is = subst (λ (rs : List Rule). slice_get rs (length rs - 1) ≡ Some c.in-Some.last) c.as_slice.ensures (sym (c.in-Some.ensures ∙ c.last.ensures.value)) in
    ap (map (declaration text)) c.put.ensures.items ∙ kept-last text (items c.args.rules.now) c.len.result c.in-Some.last c.len.ensures.count is
