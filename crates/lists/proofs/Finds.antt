-- The place of the first member for which a test holds. Assumes nothing.
use Rattle.std.proofs.Common.{◌≡◌, ℕ, ◌+◌, Bool, true, false, cond, ◌||◌, ltb, List, [], ◌∷◌, map, length, get_or, is_some, Some, None, Option, refl, ap, ◌∙◌, subst, arith}
use Rattle.std.proofs.lemmas.Bool.Decides.{nat_tests}
use Rattle.std.specs.List.{position, position_or_len}
use Rattle.std.proofs.lemmas.Bool.{both_ways, ltb-true, ltb-false}
use Rattle.std.proofs.lemmas.List.Sums.{fails_before_first, passes_at_first}
use Rattle.terms.specs.Lists.{some, place_from}
use Rattle.lists.specs.First.{First}

-- the place that `position` finds, the places counting from i on
place-counted : {X : Type 0} (i : ℕ) (p : X → Bool) (xs : List X) → place_from i p xs ≡ cond (ltb (position_or_len p xs) (length xs)) (Some (i + position_or_len p xs)) None
place-counted i p [] = refl
place-counted i p (x ∷ xs) = let ih = place-counted (i + 1) p xs in grind (arith, nat_tests, ih)

pub place-is : {X : Type 0} (p : X → Bool) (xs : List X) → place_from 0 p xs ≡ position p xs
place-is p xs = place-counted 0 p xs ∙ (let e : 0 + position_or_len p xs ≡ position_or_len p xs = omega arith in ap (λ n. cond (ltb (position_or_len p xs) (length xs)) (Some n) None) e)

-- what an answer under a test says of the test
given : {X : Type 0} (b : Bool) (x y : X) → Some y ≡ cond b (Some x) None → (b ≡ true) × (x ≡ y)
given true x y e = (refl, cc)
given false x y e = cc

withheld : {X : Type 0} (b : Bool) (x : X) → None ≡ cond b (Some x) None → b ≡ false
withheld true x e = cc
withheld false x e = refl

-- `place_from` gives the first
pub place-first : {X : Type 0} (p : X → Bool) (xs : List X) (o : Option ℕ) → o ≡ place_from 0 p xs → First (λ x. p x ≡ true) xs o
place-first p xs None e =
    let past = ltb-false (position_or_len p xs) (length xs) (withheld (ltb (position_or_len p xs) (length xs)) (position_or_len p xs) (e ∙ place-is p xs)) in
    λ k d h. both_ways (p (get_or xs k d)) (fails_before_first p xs k d (omega (arith, past)))
place-first p xs (Some i) e =
    let f = given (ltb (position_or_len p xs) (length xs)) (position_or_len p xs) i (e ∙ place-is p xs) in
    let within = ltb-true (position_or_len p xs) (length xs) f.0 in
    subst (λ j. First (λ x. p x ≡ true) xs (Some j)) f.1 (within, λ d. passes_at_first p xs d within, λ k d h. both_ways (p (get_or xs k d)) (fails_before_first p xs k d h))

-- there is a place exactly where the test holds of some member
pub place-some : {X : Type 0} (i : ℕ) (p : X → Bool) (xs : List X) → is_some (place_from i p xs) ≡ some p xs
place-some i p [] = refl
place-some i p (x ∷ xs) =
    elim (p x) as (λ b. is_some (cond b (Some i) (place_from (i + 1) p xs)) ≡ (b || some p xs)) [ true ↦ refl | false ↦ place-some (i + 1) p xs ]

-- the place in a list of what is made of the members
pub place_map : {X Y : Type 0} (f : X → Y) (i : ℕ) (p : Y → Bool) (xs : List X) → place_from i p (map f xs) ≡ place_from i (λ x. p (f x)) xs
place_map f i p [] = refl
place_map f i p (x ∷ xs) = ap (cond (p (f x)) (Some i)) (place_map f (i + 1) p xs)

pub some-map : {X Y : Type 0} (f : X → Y) (p : Y → Bool) (xs : List X) → some p (map f xs) ≡ some (λ x. p (f x)) xs
some-map f p [] = refl
some-map f p (x ∷ xs) = ap (λ (b : Bool). p (f x) || b) (some-map f p xs)
