-- The steps of the loops over bytes. Assumes nothing.
use lib.Pointwise.{pointwise}
use Rattle.std.proofs.Common.{◌≡◌, ℕ, zero, suc, ◌+◌, ◌-◌, ◌<◌, true, false, eqb, List, [], ◌∷◌, length, get_or, take, drop, sym, refl, ap, ◌∙◌, add-zero, arith, get_or-drop, Some, None, Option, MatchOption, Bor}
use Rattle.std.specs.Option.{unwrap_or}
use Rattle.std.proofs.Math.Bool.{and-true}
use Rattle.std.proofs.lemmas.List.{drop_more, drop_all}
use Rattle.std.proofs.lemmas.Bool.{cond-true, cond-false}
use Rattle.image.specs.Reading.{word_at, words_of, trimmed}

-- Trimming ---------------------------------------------------------------------------------------------------------------

ends_with_zero : (xs : List ℕ) → pointwise eqb (drop (length xs - 1) xs) (0 ∷ []) ≡ eqb (get_or xs (length xs - 1) 1) 0
ends_with_zero [] = refl
ends_with_zero (x ∷ xs) =
    let ys : List ℕ = x ∷ xs in
    let h : length ys - 1 < length ys = omega arith in
    ap (λ (zs : List ℕ). pointwise eqb zs (0 ∷ [])) (drop_more ys (length ys - 1) 1 h ∙ ap (λ (zs : List ℕ). get_or ys (length ys - 1) 1 ∷ zs) (drop_all (length ys - 1 + 1) ys (omega arith)))
    ∙ and-true (eqb (get_or ys (length ys - 1) 1) 0)

-- no zero at the end, and nothing is trimmed
trimmed-none : (n : ℕ) (xs : List ℕ) → eqb (get_or xs (length xs - 1) 1) 0 ≡ false → trimmed n xs ≡ xs
trimmed-none zero xs e = refl
trimmed-none (suc n) xs e = cond-false (eqb (get_or xs (length xs - 1) 1) 0) (trimmed n (take (length xs - 1) xs)) xs e

-- what is stripped of a zero, where there is one at the end, has one less to be trimmed
pub strip-step : (n : ℕ) (name : Bor (List ℕ)) (r : Option (Bor (List ℕ))) (next : Bor (List ℕ)) →
    MatchOption r (pointwise eqb (drop (length name.now - 1) name.now) (0 ∷ []) ≡ false)
    (λ x. (pointwise eqb (drop (length name.now - 1) name.now) (0 ∷ []) ≡ true) × (x.now ≡ take (length name.now - 1) name.now) × (length x.now + 1 ≡ length name.now)) →
    next ≡ unwrap_or r name → trimmed n next.now ≡ trimmed (suc n) name.now
strip-step n name None next m e =
    let xs : List ℕ = name.now in
    let z : eqb (get_or xs (length xs - 1) 1) 0 ≡ false = sym (ends_with_zero xs) ∙ m in
    ap (λ (b : Bor (List ℕ)). trimmed n b.now) e ∙ trimmed-none n xs z ∙ sym (trimmed-none (suc n) xs z)
strip-step n name (Some x) next m e =
    let xs : List ℕ = name.now in
    let z : eqb (get_or xs (length xs - 1) 1) 0 ≡ true = sym (ends_with_zero xs) ∙ m.0 in
    ap (λ (b : Bor (List ℕ)). trimmed n b.now) e ∙ ap (trimmed n) m.1 ∙ sym (cond-true (eqb (get_or xs (length xs - 1) 1) 0) (trimmed n (take (length xs - 1) xs)) xs z)

-- Words ------------------------------------------------------------------------------------------------------------------

pub word_at-drop : (xs : List ℕ) (i : ℕ) → word_at xs i ≡ word_at (drop i xs) 0
word_at-drop xs i = simp (get_or-drop, add-zero)

pub length-words_of : (n : ℕ) (xs : List ℕ) → length (words_of n xs) ≡ n
length-words_of zero xs = refl
length-words_of (suc n) xs = ap suc (length-words_of n (drop 4 xs))
