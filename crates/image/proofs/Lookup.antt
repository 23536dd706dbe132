-- Looking a name up. Assumes nothing.
use lib.Pointwise.{pointwise}
use Rattle.std.proofs.Common.{◌≡◌, ℕ, ◌+◌, ◌<◌, Bool, true, false, cond, eqb, List, [], ◌∷◌, map, length, get_or, drop, Some, Option, Decides, sym, refl, ap, ◌∙◌, inl, inr}
use Rattle.std.specs.List.{position_from}
use Rattle.std.specs.Str.{bytes_eq}
use Rattle.std.proofs.lemmas.Slice.Eq.{bytes_eq-Decides, slice_eq-Decides}
use Rattle.std.proofs.lemmas.List.{at_drop_more}
use Rattle.std.proofs.lemmas.Bool.{cases_Bool, both_ways, cond-true, cond-false}
use Rattle.std.proofs.lemmas.Bool.Decides.{Decides-eqb}
use Rattle.terms.specs.Lists.{place_from}
use Rattle.image.specs.declared.row.Row.{Row}
use Rattle.image.specs.View.{name_in}

-- a test that decides whether two names are equal is the comparison of their bytes
pub decided : (r : Bool) (xs ys : List ℕ) → Decides r (xs ≡ ys) → bytes_eq xs ys ≡ r
decided true xs ys d = (bytes_eq-Decides xs ys).1 (d.0 refl)
decided false xs ys d =
    elim (cases_Bool (bytes_eq xs ys)) [ inl t ↦ absurd (both_ways false refl (d.1 ((bytes_eq-Decides xs ys).0 t))) | inr f ↦ f ]

turned : (r : Bool) (xs ys : List ℕ) → Decides r (xs ≡ ys) → Decides r (ys ≡ xs)
turned r xs ys d = (λ t. sym (d.0 t), λ e. d.1 (sym e))

pub place_here : (i : ℕ) (p : List ℕ → Bool) (ns : List (List ℕ)) → i < length ns → p (get_or ns i []) ≡ true → place_from i p (drop i ns) ≡ Some i
place_here i p ns h e = at_drop_more (place_from i p) ns i [] h ∙ cond-true (p (get_or ns i [])) (Some i) (place_from (i + 1) p (drop (i + 1) ns)) e

pub place-past : (i : ℕ) (p : List ℕ → Bool) (ns : List (List ℕ)) → i < length ns → p (get_or ns i []) ≡ false → place_from i p (drop i ns) ≡ place_from (i + 1) p (drop (i + 1) ns)
place-past i p ns h e = at_drop_more (place_from i p) ns i [] h ∙ cond-false (p (get_or ns i [])) (Some i) (place_from (i + 1) p (drop (i + 1) ns)) e

-- The rows ---------------------------------------------------------------------------------------------------------------

asked : (xs ys : List ℕ) → pointwise eqb xs ys ≡ bytes_eq ys xs
asked xs ys = sym (decided (pointwise eqb xs ys) ys xs (turned (pointwise eqb xs ys) xs ys (slice_eq-Decides Decides-eqb xs ys (pointwise eqb xs ys) refl)))

-- the place of a row by its name is that of the name
pub place-row : (name : List ℕ) (i : ℕ) (rs : List Row) → position_from (λ r. pointwise eqb (name_in r) name) i rs ≡ place_from i (bytes_eq name) (map name_in rs)
place-row name i [] = refl
place-row name i (r ∷ rs) =
    ap (λ (b : Bool). cond b (Some i) (position_from (λ q. pointwise eqb (name_in q) name) (i + 1) rs)) (asked (name_in r) name) ∙
    ap (λ (o : Option ℕ). cond (bytes_eq name (name_in r)) (Some i) o) (place-row name (i + 1) rs)
