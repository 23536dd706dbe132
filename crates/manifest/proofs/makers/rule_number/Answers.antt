use Rattle.std.proofs.Common.{Bool, sym, ◌∙◌}
use Rattle.std.specs.Str.{bytes_eq}
use Rattle.lists.proofs.Finds.{place_map}
use Rattle.words.specs.Paths.{path_name}
use Rattle.manifest.specs.Books.{Declaration}
use Rattle.manifest.specs.Views.{declaration}
use Rattle.manifest.proofs.makers.rule_number.Goals as goal

pub returns : goal.returns
returns c =
    let P : Declaration → Bool = λ r. bytes_eq (path_name c.args.name) r.name in
    c.first.ensures.place ∙ sym (place_map (declaration c.args.text.now) 0 P c.args.rules.now)
