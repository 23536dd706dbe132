use Rattle.std.proofs.Common.{◌≡◌, refl, ap}
use Rattle.std.specs.Ordering.{nat_cmp}
use Rattle.std.proofs.lemmas.Iterator.Consumers.{YieldsList-from_first}
use Rattle.std.proofs.lemmas.Iterator.Search.{cmp_from_yields_List}
use Rattle.words.specs.Paths.{path_name}
use Rattle.words.proofs.paths.PathOrd.cmp.Goals as goal

pub returns : goal.returns
returns c =
    cmp_from_yields_List (λ x y. y ≡ x) _ nat_cmp c.cmp.result c.cmp.ensures.ran
    (YieldsList-from_first (λ x. x) (λ s. path_name s.0) (path_name c.args.self.now) refl)
    (λ it e. YieldsList-from_first (λ x. x) (λ s. path_name s.0) (path_name c.args.other.now) (ap (λ s. path_name s.0) e)) (λ x y. refl)
