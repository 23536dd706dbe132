-- The cases of a reading, by what the tests of the reader found. Assumes nothing.
use Rattle.std.proofs.Common.{◌≡◌, ℕ, ◌+◌, ◌-◌, ◌%◌, ◌<◌, ◌≤◌, Bool, true, false, cond, not, ◌||◌, eqb, ltb, List, [], ◌∷◌, length, take, drop, is_some, sym, refl, ap, ◌∙◌, inl, inr, arith}
use Rattle.std.specs.Str.{bytes_eq}
use Rattle.std.proofs.lemmas.Bool.{cond-true, cond-false, eq-eqb, eqb-true, lt-ltb, le-ltb, ltb-false, le-leb, lt-leb, or_parts, not-false, cases_lt, cases_Bool, false≢true}
use Rattle.terms.specs.Lists.{empty, is_in, place_in}
use Rattle.image.specs.declared.cause.Cause.TheVariants.{NoWord, TooLong, BadSize, BadChecksum, BadName}
use Rattle.terms.specs.Names.{holds_zero}
use Rattle.image.specs.Bytes.{path, checksum}
use Rattle.image.specs.Reading.{Reading, good, bad, end, word_at, unpadded, read_name, read_path, read_deps, is_deps, size_of, odd_size, read_body, read_front, next_offset, read_at}
use Rattle.image.specs.declared.head.Kind.TheVariants.{Path, Deps as Depends}
use Rattle.image.specs.Heads.{head_of, body_by}
use Rattle.image.specs.Shown.{is_good, Leads}
use Rattle.image.proofs.Loops.{word_at-drop}
use Rattle.image.proofs.Tests.{place_in_lem}

-- whether a name is known, by its place
pub known_by : (name : List ℕ) (known : List (List ℕ)) (b : Bool) → b ≡ is_some (place_in name known) → is_in name known ≡ b
known_by name known b e = sym (place_in_lem 0 (bytes_eq name) known) ∙ sym e

read_name_lem : (known : List (List ℕ)) (body name : List ℕ) → name ≡ unpadded (take (length body - 4) body) → word_at body (length body - 4) ≡ checksum (length known) →
    read_path known body ≡ read_name known name
read_name_lem known body name e w =
    cond-true (eqb (word_at body (length body - 4)) (checksum (length known))) (read_name known (unpadded (take (length body - 4) body))) (bad BadChecksum)
    (eq-eqb (word_at body (length body - 4)) (checksum (length known)) w) ∙
    ap (read_name known) (sym e)

pub name-bad : (known : List (List ℕ)) (body name : List ℕ) → name ≡ unpadded (take (length body - 4) body) → word_at body (length body - 4) ≡ checksum (length known) →
    (holds_zero name || is_in name known) ≡ true → bad BadName ≡ read_path known body
name-bad known body name e w h = sym (read_name_lem known body name e w ∙ cond-true (holds_zero name || is_in name known) (bad BadName) (good (path name)) h)

pub name-good : (known : List (List ℕ)) (body name : List ℕ) → name ≡ unpadded (take (length body - 4) body) → word_at body (length body - 4) ≡ checksum (length known) →
    (holds_zero name || is_in name known) ≡ false → good (path name) ≡ read_path known body
name-good known body name e w h = sym (read_name_lem known body name e w ∙ cond-false (holds_zero name || is_in name known) (bad BadName) (good (path name)) h)

-- Deps -------------------------------------------------------------------------------------------------------------------

-- The word ---------------------------------------------------------------------------------------------------------------

pub even-size : (w : ℕ) → odd_size w ≡ false → (size_of w % 4 ≡ 0) × (cond (is_deps w) 12 8 ≤ size_of w)
even-size w o =
    let p = or_parts (not (eqb (size_of w % 4) 0)) (ltb (size_of w) (cond (is_deps w) 12 8)) o in
    (eqb-true (size_of w % 4) 0 (not-false (eqb (size_of w % 4) 0) p.0), ltb-false (size_of w) (cond (is_deps w) 12 8) p.1)

pub deps_least : (w : ℕ) → odd_size w ≡ false → 2147483648 ≤ w → 12 ≤ size_of w
deps_least w o d = omega (arith, (even-size w o).1, cond-true {A = ℕ} (is_deps w) 12 8 (le-leb 2147483648 w d))

pub path_least : (w : ℕ) → odd_size w ≡ false → w < 2147483648 → 8 ≤ size_of w
path_least w o d = omega (arith, (even-size w o).1, cond-false {A = ℕ} (is_deps w) 12 8 (lt-leb 2147483648 w d))

-- any size that is not odd
pub some_least : (w : ℕ) → odd_size w ≡ false → 8 ≤ size_of w
some_least w o = elim (cases_lt w 2147483648) [ inl h ↦ path_least w o h | inr h ↦ omega (arith, deps_least w o h) ]

pub body_even : (known : List (List ℕ)) (w : ℕ) (rest : List ℕ) → size_of w ≤ length rest →
    read_body known w rest ≡ cond (odd_size w) (bad BadSize) (cond (is_deps w) (read_deps known (take (size_of w) rest)) (read_path known (take (size_of w) rest)))
body_even known w rest h = cond-false (ltb (length rest) (size_of w)) (bad TooLong) _ (le-ltb (length rest) (size_of w) h)

pub body_odd : (known : List (List ℕ)) (w : ℕ) (rest : List ℕ) → size_of w ≤ length rest → odd_size w ≡ true → bad BadSize ≡ read_body known w rest
body_odd known w rest h o = sym (body_even known w rest h ∙ cond-true (odd_size w) (bad BadSize) _ o)

-- by the word's parts
by_kind : (deps : Bool) (size : ℕ) (known : List (List ℕ)) (rest : List ℕ) →
    body_by known (record { kind = cond deps Depends Path; size = size }) rest ≡
    cond (ltb (length rest) size) (bad TooLong)
    (cond (not (eqb (size % 4) 0) || ltb size (cond deps 12 8)) (bad BadSize)
    (cond deps (read_deps known (take size rest)) (read_path known (take size rest))))
by_kind true size known rest = refl
by_kind false size known rest = refl

pub body_of : (known : List (List ℕ)) (w : ℕ) (rest : List ℕ) → body_by known (head_of w) rest ≡ read_body known w rest
body_of known w rest = by_kind (is_deps w) (size_of w) known rest

-- The front --------------------------------------------------------------------------------------------------------------

not-empty : (xs : List ℕ) → 0 < length xs → empty xs ≡ false
not-empty [] h = absurd (omega arith)
not-empty (x ∷ xs) h = refl

pub front-word : (known : List (List ℕ)) (xs : List ℕ) → 4 ≤ length xs → read_front known xs ≡ read_body known (word_at xs 0) (drop 4 xs)
front-word known xs h =
    cond-false (empty xs) end _ (not-empty xs (omega arith)) ∙ cond-false (ltb (length xs) 4) (bad NoWord) _ (le-ltb (length xs) 4 h)

-- A good record ----------------------------------------------------------------------------------------------------------

-- its bytes are there, 8 at least behind its word
pub body_good : (known : List (List ℕ)) (w : ℕ) (rest : List ℕ) → is_good (read_body known w rest) ≡ true → (size_of w ≤ length rest) × (8 ≤ size_of w)
body_good known w rest g =
    elim (cases_lt (length rest) (size_of w)) [
      | inl h ↦ absurd (false≢true (ap is_good (sym (cond-true (ltb (length rest) (size_of w)) (bad TooLong) _ (lt-ltb (length rest) (size_of w) h))) ∙ g))
      | inr h ↦ elim (cases_Bool (odd_size w)) [
        | inl o ↦ absurd (false≢true (ap is_good (body_odd known w rest h o) ∙ g))
        | inr o ↦ (h, some_least w o)
      ]
    ]

pub front-good : (known : List (List ℕ)) (xs : List ℕ) → is_good (read_front known xs) ≡ true → (4 ≤ length xs) × (4 + size_of (word_at xs 0) ≤ length xs) × (8 ≤ size_of (word_at xs 0))
front-good known [] g = absurd (false≢true g)
front-good known (a ∷ []) g = absurd (false≢true g)
front-good known (a ∷ b ∷ []) g = absurd (false≢true g)
front-good known (a ∷ b ∷ c ∷ []) g = absurd (false≢true g)
front-good known (a ∷ b ∷ c ∷ d ∷ ys) g =
    let xs : List ℕ = a ∷ b ∷ c ∷ d ∷ ys in
    let q = body_good known (word_at xs 0) ys (sym (ap is_good (front-word known xs (omega arith))) ∙ g) in
    (omega arith, omega (arith, q.0), q.1)

-- The reader's answer ----------------------------------------------------------------------------------------------------

pub answers : (known : List (List ℕ)) (image : List ℕ) (at : ℕ) (x : Reading) (n : ℕ) → x ≡ read_front known (drop at image) → n ≡ next_offset image at x → (x, n) ≡ read_at known image at
answers known image at x n e f = ap (λ (m : ℕ). (x, m)) f ∙ ap (λ (y : Reading). (y, next_offset image at y)) e

-- what was read of the bytes from an offset on, by the code's own parts
pub read_front_lem : (known : List (List ℕ)) (image : List ℕ) (at head : ℕ) (front behind : List ℕ) (x : Reading) → front ≡ drop at image → head ≡ word_at front 0 → behind ≡ drop 4 front →
    4 ≤ length front → x ≡ read_body known head behind → x ≡ read_front known (drop at image)
read_front_lem known image at head front behind x f h b l e =
    e ∙ ap (λ (w : ℕ). read_body known w behind) h ∙ ap (read_body known (word_at front 0)) b ∙ sym (front-word known front l) ∙ ap (read_front known) f

pub next-good : (image : List ℕ) (at : ℕ) (x : Reading) → is_good x ≡ true → next_offset image at x ≡ at + 4 + size_of (word_at (drop at image) 0)
next-good image at (good r) g = ap (λ (w : ℕ). at + 4 + size_of w) (word_at-drop image at)
next-good image at (bad c) g = absurd (false≢true g)
next-good image at end g = absurd (false≢true g)

pub leads_good : (x : Reading) (at n len : ℕ) → is_good x ≡ true → at + 12 ≤ n → n ≤ len → Leads x at n len
leads_good (good r) at n len g a b = (a, b)
leads_good (bad c) at n len g a b = absurd (false≢true g)
leads_good end at n len g a b = absurd (false≢true g)
