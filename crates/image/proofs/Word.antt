-- Words read back. Assumes nothing.
use Rattle.std.proofs.Common.{◌≡◌, ℕ, zero, suc, ◌+◌, ◌-◌, ◌*◌, ◌/◌, ◌%◌, ◌^◌, ◌<◌, ◌≤◌, true, false, eqb, ltb, List, [], ◌∷◌, ◌++◌, length, get_or, take, replicate, sym, refl, ap, ◌∙◌, add-one, arith}
use native.Mathlib.Nat.{div-div-eq-div-mul}
use Rattle.std.proofs.lemmas.List.{append-nil, take_at, get_or_push, length_push, replicate_more, append_assoc}
use Rattle.std.proofs.lemmas.Bool.{and_parts, or_parts, ltb-true, eqb-false, ne_eqb}
use Rattle.terms.specs.Lists.{every, ◌▷◌}
use Rattle.terms.specs.Names.{holds_zero}
use Rattle.image.specs.Bytes.{word, long, words}
use Rattle.image.specs.Reading.{word_at, long_at, words_of, trimmed, unpadded}

pub parts : (n : ℕ) → n % 256 + 256 * (n / 256 % 256 + 256 * (n / 65536 % 256 + 256 * (n / 16777216 % 256))) ≡ n % 4294967296
parts n =
    let e₁ : n / 256 / 256 ≡ n / 65536 = div-div-eq-div-mul n 256 256 in
    let e₂ : n / 65536 / 256 ≡ n / 16777216 = div-div-eq-div-mul n 65536 256 in
    let e₃ : n / 16777216 / 256 ≡ n / 4294967296 = div-div-eq-div-mul n 16777216 256 in
    omega arith

-- a word reads back, up to 32 bits
pub word_at-word : (n : ℕ) (rest : List ℕ) → n < 2 ^ 32 → word_at (word n ++ rest) 0 ≡ n
word_at-word n rest h = parts n ∙ omega arith

pub long_at-long : (o m : ℕ) (rest : List ℕ) → m < 2 ^ 64 → long_at (word o ++ (long m ++ rest)) 4 ≡ m
long_at-long o m rest h = omega (arith, parts m, parts (m / 4294967296))

-- words read back, each below a bound of at most 32 bits
pub words_of-words : (m : ℕ) (ns : List ℕ) → m ≤ 2 ^ 32 → every (λ id. ltb id m) ns ≡ true → words_of (length ns) (words ns) ≡ ns
words_of-words m [] h e = refl
words_of-words m (n ∷ ns) h e =
    let p = and_parts (ltb n m) (every (λ id. ltb id m) ns) e in
    let l : n < m = ltb-true n m p.0 in
    let b : n < 2 ^ 32 = omega arith in
    let w : word_at (word n ++ words ns) 0 ≡ n = word_at-word n (words ns) b in
    let r : words_of (length ns) (words ns) ≡ ns = words_of-words m ns h p.1 in
    ap (λ (x : ℕ). x ∷ words_of (length ns) (words ns)) w ∙ ap (λ (xs : List ℕ). n ∷ xs) r

-- Trimming -------------------------------------------------------------------------------------------------------------

pub ends_nonzero : (xs : List ℕ) (i : ℕ) → holds_zero xs ≡ false → eqb (get_or xs i 1) 0 ≡ false
ends_nonzero [] i e = refl
ends_nonzero (x ∷ xs) zero e = ne_eqb x 0 (λ z. eqb-false 0 x (or_parts (eqb 0 x) (holds_zero xs) e).0 (sym z))
ends_nonzero (x ∷ xs) (suc i) e = ends_nonzero xs i (or_parts (eqb 0 x) (holds_zero xs) e).1

pub trimmed-none : (n : ℕ) (xs : List ℕ) → holds_zero xs ≡ false → trimmed n xs ≡ xs
trimmed-none zero xs e = refl
trimmed-none (suc n) xs e = rw (ends_nonzero xs (length xs - 1) e)

pub trimmed_push : (n : ℕ) (xs : List ℕ) → trimmed (suc n) (xs ▷ 0) ≡ trimmed n xs
trimmed_push n xs =
    let l : length (xs ▷ 0) - 1 ≡ length xs = omega (arith, length_push xs 0) in
    let g : get_or (xs ▷ 0) (length xs) 1 ≡ 0 = get_or_push xs 0 1 (length xs) refl in
    let t : take (length xs) (xs ▷ 0) ≡ xs = take_at xs (0 ∷ []) (length xs) refl in
    simp (l, g, t)

pub trimmed-zeros : (k n : ℕ) (xs : List ℕ) → k ≤ n → holds_zero xs ≡ false → trimmed n (xs ++ replicate k 0) ≡ xs
trimmed-zeros zero n xs h e = simp append-nil (trimmed-none n xs e)
trimmed-zeros (suc k) zero xs h e = absurd (omega arith)
trimmed-zeros (suc k) (suc n) xs h e =
    let l : k ≤ n = omega arith in
    let r : replicate k 0 ▷ 0 ≡ replicate (suc k) 0 = replicate_more k 0 ∙ ap (λ (j : ℕ). replicate j 0) (add-one k) in
    let a : (xs ++ replicate k 0) ▷ 0 ≡ xs ++ replicate (suc k) 0 = append_assoc xs (replicate k 0) (0 ∷ []) ∙ ap (λ (ys : List ℕ). xs ++ ys) r in
    ap (trimmed (suc n)) (sym a) ∙ trimmed_push n (xs ++ replicate k 0) ∙ trimmed-zeros k n xs l e

-- padding is taken away again
pub unpadded-zeros : (k : ℕ) (xs : List ℕ) → k ≤ 3 → holds_zero xs ≡ false → unpadded (xs ++ replicate k 0) ≡ xs
unfolding unpadded
unpadded-zeros k xs h e = trimmed-zeros k 3 xs h e
