use Rattle.std.proofs.Common.{Bool, is_some, sym, ap, ◌∙◌}
use Rattle.std.specs.Str.{bytes_eq}
use Rattle.terms.specs.declared.Place.{Place}
use Rattle.lists.proofs.Finds.{place-some, some-map}
use Rattle.words.specs.Paths.{path_name}
use Rattle.words.specs.Spelling.{name_at}
use Rattle.manifest.proofs.makers.is_among.Goals as goal

pub returns : goal.returns
returns c =
    let P : Place → Bool = λ x. bytes_eq (path_name c.args.name) (name_at c.args.text.now x) in
    c.is_some.ensures ∙ ap is_some c.first.ensures.place ∙ place-some 0 P c.args.words.now ∙ sym (some-map (name_at c.args.text.now) (bytes_eq (path_name c.args.name)) c.args.words.now)
