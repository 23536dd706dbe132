-- Where names stand, and which are among some. Assumes nothing.
use Rattle.std.proofs.Common.{◌≡◌, ℕ, zero, suc, ◌+◌, ◌<◌, Bool, true, false, cond, not, ◌||◌, ltb, List, [], ◌∷◌, ◌++◌, map, length, get_or, Some, None, sym, refl, ap, ◌∙◌, inl, inr, arith}
use Rattle.std.specs.Str.{bytes_eq}
use Rattle.std.proofs.lemmas.Slice.Eq.{bytes_eq-Decides}
use Rattle.std.proofs.lemmas.Bool.{false≢true, cases_Bool, both_ways, and_parts, and_from, or_cases, or_parts, or_left, or_right, not-true, lt-ltb, cond-true, cond-false}
use Rattle.terms.specs.Lists.{every, some, is_in, place_from, place_in, ◌▷◌}
use Rattle.image.specs.Kept.{distinct}
use Rattle.notes.specs.Notes.{same_names, id_at, id_in}

pub same_self : (x : List ℕ) → bytes_eq x x ≡ true
same_self x = (bytes_eq-Decides x x).1 refl

pub same-is : (x y : List ℕ) → bytes_eq x y ≡ true → x ≡ y
same-is x y e = (bytes_eq-Decides x y).0 e

pub same_names_lem : (x y : List (List ℕ)) → same_names x y ≡ true → x ≡ y
same_names_lem [] [] e = refl
same_names_lem [] (b ∷ y) e = absurd (false≢true e)
same_names_lem (a ∷ x) [] e = absurd (false≢true e)
same_names_lem (a ∷ x) (b ∷ y) e =
    let q = and_parts (bytes_eq a b) (same_names x y) e in
    let h = same-is a b q.0 in
    let t = same_names_lem x y q.1 in cc

-- Members ----------------------------------------------------------------------------------------------------------------

pub in_left : (x : List ℕ) (ns ms : List (List ℕ)) → is_in x ns ≡ true → is_in x (ns ++ ms) ≡ true
in_left x [] ms e = absurd (false≢true e)
in_left x (n ∷ ns) ms e =
    elim (or_cases (bytes_eq x n) (is_in x ns) e) [
      | inl s ↦ or_left (bytes_eq x n) _ s
      | inr s ↦ or_right (bytes_eq x n) _ (in_left x ns ms s)
    ]

pub in_middle : (x : List ℕ) (ns ms : List (List ℕ)) → is_in x (ns ++ (x ∷ ms)) ≡ true
in_middle x [] ms = or_left (bytes_eq x x) _ (same_self x)
in_middle x (n ∷ ns) ms = or_right (bytes_eq x n) _ (in_middle x ns ms)

pub in_at : (ns : List (List ℕ)) (i : ℕ) → i < length ns → is_in (get_or ns i []) ns ≡ true
in_at [] i h = absurd (omega arith)
in_at (n ∷ ns) zero h = or_left (bytes_eq n n) _ (same_self n)
in_at (n ∷ ns) (suc i) h = or_right (bytes_eq (get_or ns i []) n) _ (in_at ns i (omega arith))

pub every_at : {A : Type 0} (p : A → Bool) (xs : List A) (d : A) (i : ℕ) → every p xs ≡ true → p d ≡ true → p (get_or xs i d) ≡ true
every_at p [] d i e h = h
every_at p (x ∷ xs) d zero e h = (and_parts (p x) (every p xs) e).0
every_at p (x ∷ xs) d (suc i) e h = every_at p xs d i (and_parts (p x) (every p xs) e).1 h

-- Places -----------------------------------------------------------------------------------------------------------------

module _ {A : Type 0} (p : A → Bool) where
  pub place_none : (i : ℕ) (xs : List A) → some p xs ≡ false → place_from i p xs ≡ None
  place_none i [] e = refl
  place_none i (x ∷ xs) e =
      let q = or_parts (p x) (some p xs) e in
      cond-false (p x) (Some i) _ q.0 ∙ place_none (i + 1) xs q.1

  pub place_push : (i : ℕ) (xs : List A) (y : A) → some p xs ≡ false → place_from i p (xs ▷ y) ≡ cond (p y) (Some (i + length xs)) None
  place_push i [] y e = let z : i ≡ i + 0 = omega arith in ap (λ (j : ℕ). cond (p y) (Some j) None) z
  place_push i (x ∷ xs) y e =
      let q = or_parts (p x) (some p xs) e in
      let z : i + 1 + length xs ≡ i + suc (length xs) = omega arith in
      cond-false (p x) (Some i) _ q.0 ∙ place_push (i + 1) xs y q.1 ∙ ap (λ (j : ℕ). cond (p y) (Some j) None) z

  -- the first member that passes has a place, whatever follows
  record Stands (i : ℕ) (xs : List A) (d : A) : Type 0 where
    place : ℕ
    within : place < length xs
    stays : (ys : List A) → place_from i p (xs ++ ys) ≡ Some (i + place)
    alone : place_from i p xs ≡ Some (i + place)
    holds : p (get_or xs place d) ≡ true

  stands : (i : ℕ) (xs : List A) (d : A) → some p xs ≡ true → Stands i xs d
  stands i [] d e = absurd (false≢true e)
  stands i (x ∷ xs) d e =
      elim (cases_Bool (p x)) [
        | inl t ↦
            let z : i ≡ i + 0 = omega arith in
            record { place = 0; within = omega arith; stays = λ ys. cond-true (p x) (Some i) _ t ∙ ap Some z; alone = cond-true (p x) (Some i) _ t ∙ ap Some z; holds = t }
        | inr f ↦
            let q = stands (i + 1) xs d (sym (ap (λ (b : Bool). b || some p xs) f) ∙ e) in
            let z : i + 1 + q.place ≡ i + suc q.place = omega arith in
            record {
              place = suc q.place;
              within = omega (arith, q.within);
              stays = λ ys. cond-false (p x) (Some i) _ f ∙ q.stays ys ∙ ap Some z;
              alone = cond-false (p x) (Some i) _ f ∙ q.alone ∙ ap Some z;
              holds = q.holds;
            }
      ]

-- a name among some: its id is a place that holds it, whatever follows
pub record Known (names : List (List ℕ)) (x : List ℕ) : Type 0 where
  pub place : place_in x names ≡ Some (id_in names x)
  pub stays : (more : List (List ℕ)) → place_in x (names ++ more) ≡ Some (id_in names x)
  pub within : id_in names x < length names
  pub holds : get_or names (id_in names x) [] ≡ x

pub is_known_lem : (names : List (List ℕ)) (x : List ℕ) → is_in x names ≡ true → Known names x
is_known_lem names x e =
    let q = stands (bytes_eq x) 0 names [] e in
    let i : id_in names x ≡ 0 + q.place = ap id_at q.alone in
    let j : id_in names x ≡ q.place = omega (arith, i) in
    record {
      place = q.alone ∙ ap Some (sym i);
      stays = λ more. q.stays more ∙ ap Some (sym i);
      within = omega (arith, j, q.within);
      holds = ap (λ (k : ℕ). get_or names k []) j ∙ sym (same-is x (get_or names q.place []) q.holds);
    }

pub ids-below : (names xs : List (List ℕ)) → every (λ x. is_in x names) xs ≡ true → every (λ id. ltb id (length names)) (map (id_in names) xs) ≡ true
ids-below names [] e = refl
ids-below names (x ∷ xs) e =
    let q = and_parts (is_in x names) (every (λ y. is_in y names) xs) e in
    and_from (ltb (id_in names x) (length names)) _ (lt-ltb (id_in names x) (length names) (is_known_lem names x q.0).within) (ids-below names xs q.1)

-- where no two are equal, each stands at its own place
pub place_own : (i : ℕ) (ns : List (List ℕ)) (k : ℕ) → distinct ns ≡ true → k < length ns → place_from i (bytes_eq (get_or ns k [])) ns ≡ Some (i + k)
place_own i [] k d h = absurd (omega arith)
place_own i (n ∷ ns) zero d h = cond-true (bytes_eq n n) (Some i) _ (same_self n) ∙ ap Some (omega arith)
place_own i (n ∷ ns) (suc k) d h =
    let x : List ℕ = get_or ns k [] in
    let q = and_parts (not (is_in n ns)) (distinct ns) d in
    let l : k < length ns = omega arith in
    let f : bytes_eq x n ≡ false = elim (cases_Bool (bytes_eq x n)) [
      | inl s ↦ absurd (both_ways (is_in n ns) (not-true (is_in n ns) q.0) (ap (λ (m : List ℕ). is_in m ns) (sym (same-is x n s)) ∙ in_at ns k l))
      | inr s ↦ s
    ] in
    cond-false (bytes_eq x n) (Some i) _ f ∙ place_own (i + 1) ns k q.1 l ∙ ap Some (omega arith)
