-- A binding, by where its parts stand. Assumes nothing.
use Rattle.std.proofs.Common.{◌≡◌, ℕ, ◌+◌, ◌-◌, true, false, not, List, [], ◌∷◌, length, take, drop, Some, None, codes, sym, refl, ap, ◌∙◌, arith}
use Rattle.std.specs.Str.{bytes_eq}
use Rattle.std.proofs.lemmas.List.{drop-drop, take_all, length-drop}
use Rattle.std.proofs.lemmas.Bool.{cond-true, cond-false, and_from, and_left, and_right, not_from_false, not_from_true}
use Rattle.terms.specs.Lists.{empty, every}
use Rattle.words.specs.declared.class.Class.TheVariants.{Space, InKey, Shown}
use Rattle.words.specs.Runs.{is_of, front, beyond}
use Rattle.words.proofs.Spans.{drop_run, take-front}
use Rattle.manifest.specs.Kinds.{begins}
use Rattle.manifest.specs.Bindings.{unspaced, key_of, from_equals, value_of, is_binding, binds_deps, binding_of}

pub empty-none : {A : Type 0} (xs : List A) → length xs ≡ 0 → empty xs ≡ true
empty-none [] e = refl
empty-none (x ∷ xs) e = absurd (omega arith)

pub empty-some : {A : Type 0} (xs : List A) → (length xs ≡ 0 → ⊥) → empty xs ≡ false
empty-some [] n = absurd (n refl)
empty-some (x ∷ xs) n = refl

module _ (xs : List ℕ) (at key past equals : ℕ) (k : key ≡ at + length (front (is_of Space) (drop at xs))) (p : past ≡ key + length (front (is_of InKey) (drop key xs))) (q : equals ≡ past + length (front (is_of Space) (drop past xs))) where
  from_key : drop key xs ≡ unspaced (drop at xs)
  from_key = ap (λ (n : ℕ). drop n xs) k ∙ drop_run (is_of Space) xs at

  from_past : drop past xs ≡ beyond (is_of InKey) (unspaced (drop at xs))
  from_past = ap (λ (n : ℕ). drop n xs) p ∙ drop_run (is_of InKey) xs key ∙ ap (beyond (is_of InKey)) from_key

  from_equals_lem : drop equals xs ≡ from_equals (drop at xs)
  from_equals_lem = ap (λ (n : ℕ). drop n xs) q ∙ drop_run (is_of Space) xs past ∙ ap unspaced from_past

  pub key_taken : take (past - key) (drop key xs) ≡ key_of (drop at xs)
  key_taken =
      let n : past - key ≡ length (front (is_of InKey) (drop key xs)) = omega arith in
      ap (λ (m : ℕ). take m (drop key xs)) n ∙ take-front (is_of InKey) (drop key xs) ∙ ap (front (is_of InKey)) from_key

  key_long : length (key_of (drop at xs)) ≡ past - key
  key_long = ap length (ap (front (is_of InKey)) (sym from_key)) ∙ omega arith

  module _ (v : ℕ) (w : v ≡ equals + 1 + length (front (is_of Space) (drop (equals + 1) xs))) where
    from-value : drop v xs ≡ value_of (drop at xs)
    from-value = ap (λ (n : ℕ). drop n xs) w ∙ drop_run (is_of Space) xs (equals + 1) ∙ ap unspaced (sym (drop-drop 1 equals xs) ∙ ap (drop 1) from_equals_lem)

    pub value_taken : take (length xs) (drop v xs) ≡ value_of (drop at xs)
    value_taken = take_all (length xs) (drop v xs) (omega (arith, length-drop v xs)) ∙ from-value

  none : is_binding (drop at xs) ≡ false → None ≡ binding_of (drop at xs)
  none e = sym (cond-false (is_binding (drop at xs)) (Some (binds_deps (drop at xs))) None e)

  pub no_key : past ≡ key → None ≡ binding_of (drop at xs)
  no_key e =
      none (and_right (every (is_of Shown) (drop at xs)) _
      (and_left (not (empty (key_of (drop at xs)))) (begins (codes "=") (from_equals (drop at xs))) (not_from_true (empty (key_of (drop at xs))) (empty-none (key_of (drop at xs)) (key_long ∙ omega arith)))))

  pub no_equals : bytes_eq (take 1 (drop equals xs)) (61 ∷ []) ≡ false → None ≡ binding_of (drop at xs)
  no_equals e =
      none (and_right (every (is_of Shown) (drop at xs)) _
      (and_right (not (empty (key_of (drop at xs)))) (begins (codes "=") (from_equals (drop at xs))) (ap (λ ys. bytes_eq (take 1 ys) (61 ∷ [])) (sym from_equals_lem) ∙ e)))

  pub bound : every (is_of Shown) (drop at xs) ≡ true → (past ≡ key → ⊥) → bytes_eq (take 1 (drop equals xs)) (61 ∷ []) ≡ true → Some (binds_deps (drop at xs)) ≡ binding_of (drop at xs)
  bound s n e =
      sym (cond-true (is_binding (drop at xs)) (Some (binds_deps (drop at xs))) None
      (and_from (every (is_of Shown) (drop at xs)) _ s
      (and_from (not (empty (key_of (drop at xs)))) (begins (codes "=") (from_equals (drop at xs)))
      (not_from_false (empty (key_of (drop at xs))) (empty-some (key_of (drop at xs)) (λ z. n (omega (arith, key_long)))))
      (ap (λ ys. bytes_eq (take 1 ys) (61 ∷ [])) (sym from_equals_lem) ∙ e))))
