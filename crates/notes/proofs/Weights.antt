-- Distinct names of a list weigh no more than it does. Assumes nothing.
use Rattle.std.proofs.Common.{◌≡◌, ℕ, ◌+◌, ◌≤◌, Bool, true, false, cond, not, ◌||◌, ◌⊎◌, List, [], ◌∷◌, ◌++◌, length, sum_by, sym, refl, ap, ◌∙◌, subst, inl, inr, arith}
use Rattle.std.specs.Str.{bytes_eq}
use Rattle.std.proofs.lemmas.List.{append-nil, append_assoc}
use Rattle.std.proofs.lemmas.List.Sums.{sum_by-cons}
use Rattle.std.proofs.lemmas.Bool.{false≢true, cases_Bool, and_parts, or_cases, or_parts, or_left, or_right, not-true, cond-true, cond-false}
use Rattle.terms.specs.Lists.{every, is_in, ◌▷◌}
use Rattle.image.specs.Kept.{distinct}
use Rattle.image.proofs.Tests.{every_push, other_way}
use Rattle.image.proofs.Learned.{distinct_push}
use Rattle.notes.specs.Notes.{new_names}
use Rattle.notes.proofs.Places.{same-is}
use Rattle.notes.proofs.Noting.{new-known, new-unknown}

abbrev without : List ℕ → List (List ℕ) → List (List ℕ)
without x [] = []
without x (k ∷ ks) = cond (bytes_eq x k) ks (k ∷ without x ks)

in_without : (x y : List ℕ) (ks : List (List ℕ)) → bytes_eq y x ≡ false → is_in y ks ≡ true → is_in y (without x ks) ≡ true
in_without x y [] d e = e
in_without x y (k ∷ ks) d e = elim (cases_Bool (bytes_eq x k)) [
  | inl s ↦
      let f : bytes_eq y k ≡ false = ap (bytes_eq y) (sym (same-is x k s)) ∙ d in
      ap (is_in y) (cond-true (bytes_eq x k) ks _ s) ∙ sym (ap (λ (b : Bool). b || is_in y ks) f) ∙ e
  | inr s ↦ ap (is_in y) (cond-false (bytes_eq x k) ks _ s) ∙ elim (or_cases (bytes_eq y k) (is_in y ks) e) [
    | inl b ↦ or_left (bytes_eq y k) _ b
    | inr b ↦ or_right (bytes_eq y k) _ (in_without x y ks d b)
  ]
]

module _ (f : List ℕ → ℕ) where
  sum_without : (x : List ℕ) (ks : List (List ℕ)) → is_in x ks ≡ true → f x + sum_by f (without x ks) ≡ sum_by f ks
  sum_without x [] e = absurd (false≢true e)
  sum_without x (k ∷ ks) e = elim (cases_Bool (bytes_eq x k)) [
    | inl s ↦
        ap (λ (zs : List (List ℕ)). f x + sum_by f zs) (cond-true (bytes_eq x k) ks _ s) ∙ ap (λ (y : List ℕ). f y + sum_by f ks) (same-is x k s) ∙ sym (sum_by-cons f k ks)
    | inr s ↦
        let q = sum_without x ks (sym (ap (λ (b : Bool). b || is_in x ks) s) ∙ e) in
        ap (λ (zs : List (List ℕ)). f x + sum_by f zs) (cond-false (bytes_eq x k) ks _ s) ∙ omega (arith, q, sum_by-cons f k (without x ks), sum_by-cons f k ks)
  ]

  -- each is among ks, or weighs nothing
  abbrev pub Covered : List (List ℕ) → List (List ℕ) → Type 0
  Covered ks [] = Unit {0}
  Covered ks (x ∷ xs) = ((is_in x ks ≡ true) ⊎ (f x ≡ 0)) × Covered ks xs

  covered_without : (x : List ℕ) (ks xs : List (List ℕ)) → is_in x xs ≡ false → Covered ks xs → Covered (without x ks) xs
  covered_without x ks [] d c = tt
  covered_without x ks (y ∷ xs) d c =
      let p = or_parts (bytes_eq x y) (is_in x xs) d in
      (elim c.0 [ inl h ↦ inl (in_without x y ks (other_way x y p.0) h) | inr h ↦ inr h ], covered_without x ks xs p.1 c.1)

  pub covered_all : (ks xs : List (List ℕ)) → every (λ y. is_in y ks) xs ≡ true → Covered ks xs
  covered_all ks [] e = tt
  covered_all ks (x ∷ xs) e = let q = and_parts (is_in x ks) (every (λ y. is_in y ks) xs) e in (inl q.0, covered_all ks xs q.1)

  pub sum_within : (xs ks : List (List ℕ)) → distinct xs ≡ true → Covered ks xs → sum_by f xs ≤ sum_by f ks
  sum_within [] ks d c = omega arith
  sum_within (x ∷ xs) ks d c =
      let q = and_parts (not (is_in x xs)) (distinct xs) d in
      elim c.0 [
        | inl h ↦ omega (arith, sum_within xs (without x ks) q.1 (covered_without x ks xs (not-true (is_in x xs) q.0) c.1), sum_without x ks h, sum_by-cons f x xs)
        | inr h ↦ omega (arith, sum_within xs ks q.1 c.1, sum_by-cons f x xs, h)
      ]

sum_ones : (xs : List (List ℕ)) → sum_by (λ _. 1) xs ≡ length xs
sum_ones [] = refl
sum_ones (x ∷ xs) = omega (arith, sum_by-cons (λ _. 1) x xs, sum_ones xs)

-- Names within others ----------------------------------------------------------------------------------------------------

-- no two equal, and all of them in K
abbrev pub Within : List (List ℕ) → List (List ℕ) → Type 0
Within K ns = (distinct ns ≡ true) × (every (λ y. is_in y K) ns ≡ true)

pub no_more : (K ns : List (List ℕ)) → Within K ns → length ns ≤ length K
no_more K ns w = omega (arith, sum_within (λ _. 1) ns K w.0 (covered_all (λ _. 1) K ns w.1), sum_ones ns, sum_ones K)

pub within_new : (K names xs : List (List ℕ)) → Within K names → every (λ y. is_in y K) xs ≡ true → Within K (names ++ new_names names xs)
within_new K names [] w e = subst (Within K) (sym (append-nil names)) w
within_new K names (x ∷ xs) w e =
    let q = and_parts (is_in x K) (every (λ y. is_in y K) xs) e in
    let P : List (List ℕ) → Type 0 = λ ns. Within K (names ++ ns) in
    elim (cases_Bool (is_in x names)) [
      | inl b ↦ subst P (sym (new-known names x xs b)) (within_new K names xs w q.1)
      | inr b ↦
          subst P (sym (new-unknown names x xs b)) (subst (Within K) (append_assoc names (x ∷ []) (new_names (names ▷ x) xs))
          (within_new K (names ▷ x) xs (distinct_push names x w.0 b, every_push (λ y. is_in y K) names x w.1 q.0) q.1))
    ]
