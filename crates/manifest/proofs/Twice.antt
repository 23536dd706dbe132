-- Outputs that are made twice, one by one. Assumes nothing.
use Rattle.std.proofs.Common.{◌≡◌, ℕ, Bool, true, false, ◌||◌, List, ◌∷◌, map, is_some, ap, ◌∙◌}
use Rattle.std.proofs.lemmas.Bool.{or_left}
use Rattle.terms.specs.declared.Place.{Place}
use Rattle.terms.specs.Lists.{is_in}
use Rattle.lists.proofs.Finds.{place-some}
use Rattle.manifest.specs.Books.{Making, maker_of, is_made, twice}

pub made_by : (M : List Making) (name : List ℕ) → is_some (maker_of M name) ≡ is_made M name
made_by M name = place-some 0 (λ s. is_in name s.outputs) M

module _ (M : List Making) (f : Place → List ℕ) (o : Place) (os xs : List Place) (e : xs ≡ o ∷ os) where
  pub twice-made : is_made M (f o) ≡ true → twice M (map f xs) ≡ true
  twice-made h = ap (λ ys. twice M (map f ys)) e ∙ or_left (is_made M (f o)) _ h

  pub twice-past : is_made M (f o) ≡ false → is_in (f o) (map f os) ≡ false → twice M (map f xs) ≡ twice M (map f os)
  twice-past h k =
      ap (λ ys. twice M (map f ys)) e ∙ ap (λ (b : Bool). b || (is_in (f o) (map f os) || twice M (map f os))) h ∙ ap (λ (b : Bool). b || twice M (map f os)) k
