-- Names that are not known yet. Assumes nothing.
use Rattle.std.proofs.Common.{◌≡◌, ℕ, ◌+◌, ◌<◌, Bool, true, false, cond, ◌||◌, List, [], ◌∷◌, ◌++◌, map, length, is_some, Some, None, Option, sym, refl, ap, ◌∙◌, inl, inr, arith}
use Rattle.std.specs.Option.{option_map}
use Rattle.std.specs.Borrow.{Bor}
use Rattle.std.specs.List.{position, position_from}
use Rattle.std.proofs.lemmas.Iterator.Adapters.{position_from-zero}
use Rattle.std.specs.Str.{bytes_eq}
use Rattle.std.proofs.lemmas.Slice.Eq.{bytes_eq-Decides}
use Rattle.std.proofs.lemmas.List.{append_assoc, map_push}
use Rattle.std.proofs.lemmas.Bool.{cases_Bool, cond-true, cond-false, and_parts, and_from, or_left, or_right, or_from, or_parts}
use Rattle.terms.specs.Lists.{every, some, is_in, place_from, place_in, ◌▷◌}
use Rattle.image.proofs.Lookup.{decided}
use Rattle.image.proofs.Tests.{place_in_lem, every_push}
use Rattle.notes.specs.Notes.{unknown, id_at, id_in}
use Rattle.notes.proofs.Places as places
use Rattle.depslog.specs.Texts.{texts}

-- Names by references ------------------------------------------------------------------------------------------------------

same-turned : (a b : List ℕ) → bytes_eq a b ≡ bytes_eq b a
same-turned a b = let q = bytes_eq-Decides b a in decided (bytes_eq b a) a b ((λ t. sym (q.0 t)), (λ s. q.1 (sym s)))

-- where a name stands among these
placed_from : (n : List ℕ) (i : ℕ) (xs : List (Bor (List ℕ))) → position_from (λ (y : Bor (List ℕ)). bytes_eq y.now n) i xs ≡ place_from i (bytes_eq n) (texts xs)
placed_from n i [] = refl
placed_from n i (x ∷ xs) =
    ap (λ (b : Bool). cond b (Some i) (position_from (λ (y : Bor (List ℕ)). bytes_eq y.now n) (i + 1) xs)) (same-turned x.now n) ∙
    ap (cond (bytes_eq n x.now) (Some i)) (placed_from n (i + 1) xs)

pub place_among : (n : List ℕ) (xs : List (Bor (List ℕ))) → position (λ (y : Bor (List ℕ)). bytes_eq y.now n) xs ≡ place_in n (texts xs)
place_among n xs = position_from-zero (λ (y : Bor (List ℕ)). bytes_eq y.now n) xs ∙ placed_from n 0 xs

pub texts_push : (xs : List (Bor (List ℕ))) (x : Bor (List ℕ)) → texts (xs ▷ x) ≡ texts xs ▷ x.now
texts_push xs x = map_push (λ (y : Bor (List ℕ)). y.now) xs x

-- Taking a name in ---------------------------------------------------------------------------------------------------------

in_both : (n : List ℕ) (xs ys : List (List ℕ)) → is_in n (xs ++ ys) ≡ (is_in n xs || is_in n ys)
in_both n [] ys = refl
in_both n (x ∷ xs) ys =
    ap (λ (b : Bool). bytes_eq n x || b) (in_both n xs ys) ∙
    elim (bytes_eq n x) as (λ b. (b || (is_in n xs || is_in n ys)) ≡ ((b || is_in n xs) || is_in n ys)) [ true ↦ refl | false ↦ refl ]

-- neither known nor among them
pub is-new : (n : List ℕ) (known fresh : List (List ℕ)) → is_in n known ≡ false → is_in n fresh ≡ false → unknown (known ++ fresh) n ≡ n ∷ []
is-new n known fresh a b = cond-false (is_in n (known ++ fresh)) [] (n ∷ []) (in_both n known fresh ∙ or_from (is_in n known) (is_in n fresh) a b)

pub is_known_lem : (n : List ℕ) (known fresh : List (List ℕ)) → is_in n known ≡ true → unknown (known ++ fresh) n ≡ []
is_known_lem n known fresh a = cond-true (is_in n (known ++ fresh)) [] (n ∷ []) (in_both n known fresh ∙ or_left (is_in n known) (is_in n fresh) a)

pub is-taken : (n : List ℕ) (known fresh : List (List ℕ)) → is_in n fresh ≡ true → unknown (known ++ fresh) n ≡ []
is-taken n known fresh a = cond-true (is_in n (known ++ fresh)) [] (n ∷ []) (in_both n known fresh ∙ or_right (is_in n known) (is_in n fresh) a)

-- Ids ----------------------------------------------------------------------------------------------------------------------

places_right : (i : ℕ) (p : List ℕ → Bool) (xs ys : List (List ℕ)) → some p xs ≡ false → place_from i p (xs ++ ys) ≡ place_from (i + length xs) p ys
places_right i p [] ys e = ap (λ (j : ℕ). place_from j p ys) (omega arith)
places_right i p (x ∷ xs) ys e =
    let q = or_parts (p x) (some p xs) e in
    cond-false (p x) (Some i) (place_from (i + 1) p (xs ++ ys)) q.0 ∙ places_right (i + 1) p xs ys q.1 ∙ ap (λ (j : ℕ). place_from j p ys) (omega arith)

shifted : (j i : ℕ) (p : List ℕ → Bool) (ys : List (List ℕ)) → place_from (j + i) p ys ≡ option_map (λ (k : ℕ). j + k) (place_from i p ys)
shifted j i p [] = refl
shifted j i p (y ∷ ys) =
    ap (λ (o : Option ℕ). cond (p y) (Some (j + i)) o) (ap (λ (k : ℕ). place_from k p ys) (omega arith) ∙ shifted j (i + 1) p ys) ∙
    elim (p y) as (λ b. cond b (Some (j + i)) (option_map (λ (k : ℕ). j + k) (place_from (i + 1) p ys)) ≡ option_map (λ (k : ℕ). j + k) (cond b (Some i) (place_from (i + 1) p ys))) [ true ↦ refl | false ↦ refl ]

pub some_in : (n : List ℕ) (names : List (List ℕ)) (id : ℕ) → Some id ≡ place_in n names → is_in n names ≡ true
some_in n names id e = sym (place_in_lem 0 (bytes_eq n) names) ∙ ap is_some (sym e)

pub none_in : (n : List ℕ) (names : List (List ℕ)) → None ≡ place_in n names → is_in n names ≡ false
none_in n names e = sym (place_in_lem 0 (bytes_eq n) names) ∙ ap is_some (sym e)

-- a known name keeps its id
pub id_known : (n : List ℕ) (known fresh : List (List ℕ)) (id : ℕ) → Some id ≡ place_in n known → (id ≡ id_in (known ++ fresh) n) × (id < length known)
id_known n known fresh id e =
    let k = places.is_known_lem known n (some_in n known id e) in
    let i : id ≡ id_in known n = ap id_at e in
    (i ∙ sym (ap id_at (k.stays fresh)), omega (arith, i, k.within))

place-behind : (n : List ℕ) (known fresh : List (List ℕ)) → None ≡ place_in n known → place_in n (known ++ fresh) ≡ option_map (λ (k : ℕ). length known + k) (place_in n fresh)
place-behind n known fresh e =
    places_right 0 (bytes_eq n) known fresh (none_in n known e) ∙ ap (λ (j : ℕ). place_from j (bytes_eq n) fresh) (omega arith) ∙ shifted (length known) 0 (bytes_eq n) fresh

-- a new one has its id behind those
pub id_new : (n : List ℕ) (known fresh : List (List ℕ)) (k : ℕ) → None ≡ place_in n known → Some k ≡ place_in n fresh → (length known + k ≡ id_in (known ++ fresh) n) × (k < length fresh)
id_new n known fresh k e f =
    (sym (ap id_at (place-behind n known fresh e ∙ ap (option_map (λ (j : ℕ). length known + j)) (sym f))), (id_known n fresh [] k f).1)

-- and the last of them, which was not among those before, behind these
pub id_last : (n : List ℕ) (known fresh : List (List ℕ)) → None ≡ place_in n known → None ≡ place_in n fresh → length known + length fresh ≡ id_in (known ++ (fresh ▷ n)) n
id_last n known fresh e f =
    let z : 0 + length fresh ≡ length fresh = omega arith in
    let p : place_in n (fresh ▷ n) ≡ Some (length fresh) =
    places.place_push (bytes_eq n) 0 fresh n (none_in n fresh f) ∙ cond-true (bytes_eq n n) (Some (0 + length fresh)) None (places.same_self n) ∙ ap Some z in
    (id_new n known (fresh ▷ n) (length fresh) e (sym p)).0

-- As more are taken in ---------------------------------------------------------------------------------------------------------

-- names that are among some stay so with more behind them, and keep their ids
ids_stay : (all more ns : List (List ℕ)) → every (λ x. is_in x all) ns ≡ true → (every (λ x. is_in x (all ++ more)) ns ≡ true) × (map (id_in (all ++ more)) ns ≡ map (id_in all) ns)
ids_stay all more [] e = (refl, refl)
ids_stay all more (n ∷ ns) e =
    let q = and_parts (is_in n all) (every (λ x. is_in x all) ns) e in
    let r = ids_stay all more ns q.1 in (
      and_from (is_in n (all ++ more)) (every (λ x. is_in x (all ++ more)) ns) (places.in_left n all more q.0) r.0,
      ap (λ (i : ℕ). i ∷ map (id_in (all ++ more)) ns) (ap id_at ((places.is_known_lem all n q.0).stays more)) ∙ ap (λ (is : List ℕ). id_in all n ∷ is) r.1,
    )

-- a name that is taken in is among them
in_then : (n : List ℕ) (all : List (List ℕ)) → is_in n (all ++ unknown all n) ≡ true
in_then n all =
    elim (cases_Bool (is_in n all)) [
      | inl e ↦ places.in_left n all (unknown all n) e
      | inr e ↦ ap (λ (ns : List (List ℕ)). is_in n (all ++ ns)) (cond-false (is_in n all) [] (n ∷ []) e) ∙ places.in_middle n all []
    ]

-- one more of some names is taken in: they are all among them, and those before keep their ids
pub taken_more : (known fresh after ns : List (List ℕ)) (n : List ℕ) → after ≡ fresh ++ unknown (known ++ fresh) n → every (λ x. is_in x (known ++ fresh)) ns ≡ true →
    (every (λ x. is_in x (known ++ after)) (ns ▷ n) ≡ true) × (map (id_in (known ++ after)) ns ≡ map (id_in (known ++ fresh)) ns)
taken_more known fresh after ns n e k =
    let all : List (List ℕ) = known ++ fresh in
    let those : List (List ℕ) = all ++ unknown all n in
    let b : known ++ after ≡ those = ap (λ (xs : List (List ℕ)). known ++ xs) e ∙ sym (append_assoc known fresh (unknown all n)) in
    let s = ids_stay all (unknown all n) ns k in (
      ap (λ (xs : List (List ℕ)). every (λ x. is_in x xs) (ns ▷ n)) b ∙ every_push (λ x. is_in x those) ns n s.0 (in_then n all),
      ap (λ (xs : List (List ℕ)). map (id_in xs) ns) b ∙ s.1,
    )
