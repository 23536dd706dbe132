-- Tests of every and of some member of a list. Assumes nothing.
use Rattle.std.proofs.Common.{◌≡◌, ℕ, ◌+◌, ◌∙◌, Bool, true, false, cond, ◌||◌, List, [], ◌∷◌, set, is_some, Some, sym, refl, inl, inr}
use Rattle.std.specs.Str.{bytes_eq}
use Rattle.std.proofs.lemmas.Slice.Eq.{bytes_eq-Decides}
use Rattle.std.proofs.lemmas.Bool.{and_from, and_parts, or_from, cases_Bool, both_ways}
use Rattle.std.proofs.lemmas.List.Recursion.{and_push, and_set, or_push}
use Rattle.terms.specs.Lists.{every, some, place_from, ◌▷◌}

pub every_push : {A : Type 0} (p : A → Bool) (xs : List A) (x : A) → every p xs ≡ true → p x ≡ true → every p (xs ▷ x) ≡ true
every_push p xs x e h = and_push (every p) p refl (λ _ _. refl) xs x ∙ and_from (every p xs) (p x) e h

pub every_set : {A : Type 0} (p : A → Bool) (xs : List A) (i : ℕ) (x : A) → every p xs ≡ true → p x ≡ true → every p (set xs i x) ≡ true
every_set p xs i x e h = and_set (every p) p refl (λ _ _. refl) xs i x h e

pub every_more : {A : Type 0} (p q : A → Bool) → ((x : A) → p x ≡ true → q x ≡ true) → (xs : List A) → every p xs ≡ true → every q xs ≡ true
every_more p q f [] e = refl
every_more p q f (x ∷ xs) e =
    let r = and_parts (p x) (every p xs) e in and_from (q x) (every q xs) (f x r.0) (every_more p q f xs r.1)

pub some_push : {A : Type 0} (p : A → Bool) (xs : List A) (x : A) → some p xs ≡ false → p x ≡ false → some p (xs ▷ x) ≡ false
some_push p xs x e h = or_push (some p) p refl (λ _ _. refl) xs x ∙ or_from (some p xs) (p x) e h

pub other_way : (m n : List ℕ) → bytes_eq m n ≡ false → bytes_eq n m ≡ false
other_way m n e =
    elim (cases_Bool (bytes_eq n m)) [
      | inl t ↦ absurd (both_ways (bytes_eq m n) e ((bytes_eq-Decides m n).1 (sym ((bytes_eq-Decides n m).0 t))))
      | inr f ↦ f
    ]

-- a name has a place exactly where it is among the names
pub place_in_lem : {A : Type 0} (i : ℕ) (p : A → Bool) (xs : List A) → is_some (place_from i p xs) ≡ some p xs
place_in_lem i p [] = refl
place_in_lem i p (x ∷ xs) =
    elim (p x) as (λ b. is_some (cond b (Some i) (place_from (i + 1) p xs)) ≡ (b || some p xs)) [ true ↦ refl | false ↦ place_in_lem (i + 1) p xs ]
