-- Runs at the front of a list. Assumes nothing.
use Rattle.std.proofs.Common.{◌≡◌, ℕ, suc, ◌+◌, ◌≤◌, Bool, true, false, cond, ◌&&◌, List, [], ◌∷◌, length, take, drop, sym, refl, ap, ◌∙◌, arith}
use Rattle.std.proofs.lemmas.List.{drop-drop, length-drop, take_all}
use Rattle.std.specs.List.{list_all, prefix_len}
use Rattle.terms.specs.Lists.{every}
use Rattle.words.specs.Runs.{front, beyond}

-- a part of a list that may be as long as the whole is all that stands from an offset on
pub rest_from : {A : Type 0} (xs : List A) (at : ℕ) → take (length xs) (drop at xs) ≡ drop at xs
rest_from xs at = take_all (length xs) (drop at xs) (omega (arith, length-drop at xs))

module _ {A : Type 0} (p : A → Bool) where
  pub front-short : (xs : List A) → length (front p xs) ≤ length xs
  front-short [] = omega arith
  front-short (x ∷ xs) =
      elim (p x) as (λ b. length (cond b (x ∷ front p xs) []) ≤ suc (length xs)) [ true ↦ (let h = front-short xs in omega arith) | false ↦ omega arith ]

  pub take-front : (xs : List A) → take (length (front p xs)) xs ≡ front p xs
  take-front [] = refl
  take-front (x ∷ xs) =
      elim (p x) as (λ b. take (length (cond b (x ∷ front p xs) [])) (x ∷ xs) ≡ cond b (x ∷ front p xs) []) [ true ↦ ap (λ ys. x ∷ ys) (take-front xs) | false ↦ refl ]

  pub drop-front : (xs : List A) → drop (length (front p xs)) xs ≡ beyond p xs
  drop-front [] = refl
  drop-front (x ∷ xs) =
      elim (p x) as (λ b. drop (length (cond b (x ∷ front p xs) [])) (x ∷ xs) ≡ cond b (beyond p xs) (x ∷ xs)) [ true ↦ drop-front xs | false ↦ refl ]

  -- what follows the run that stands at an offset
  pub drop_run : (xs : List A) (at : ℕ) → drop (at + length (front p (drop at xs))) xs ≡ beyond p (drop at xs)
  drop_run xs at = sym (drop-drop (length (front p (drop at xs))) at xs) ∙ drop-front (drop at xs)

  pub run_short : (xs : List A) (at : ℕ) → at ≤ length xs → at + length (front p (drop at xs)) ≤ length xs
  run_short xs at h = omega (arith, front-short (drop at xs), length-drop at xs)

  -- how long the run is, as `take_while` tells it
  pub length-front : (xs : List A) → length (front p xs) ≡ prefix_len p xs
  length-front [] = refl
  length-front (x ∷ xs) = elim (p x) as (λ b. length (cond b (x ∷ front p xs) []) ≡ cond b (1 + prefix_len p xs) 0) [ true ↦ (let ih = length-front xs in omega arith) | false ↦ refl ]

  -- that all pass, as `all` tells it
  pub every-is : (xs : List A) → list_all p xs ≡ every p xs
  every-is [] = refl
  every-is (x ∷ xs) = ap (λ b. p x && b) (every-is xs)
