-- What a good reading tells of its record. Assumes nothing.
use Rattle.std.proofs.Common.{◌≡◌, ℕ, zero, suc, ◌+◌, ◌-◌, ◌/◌, ◌≤◌, Bool, true, false, cond, ◌||◌, eqb, ltb, List, [], ◌∷◌, length, get_or, take, drop, sym, refl, ap, ◌∙◌, subst, inl, inr, arith}
use Rattle.std.proofs.lemmas.List.{length-take-le}
use Rattle.std.proofs.lemmas.Bool.{or_parts, cases_Bool, false≢true, ltb-false}
use Rattle.terms.specs.Lists.{every, is_in}
use Rattle.image.specs.declared.cause.Cause.{Cause}
use Rattle.image.specs.declared.cause.Cause.TheVariants.{TooLong, BadSize, BadChecksum, BadName, UnknownId}
use Rattle.terms.specs.Names.{holds_zero}
use Rattle.image.specs.Bytes.{Record, path, deps, checksum}
use Rattle.image.specs.Reading.{Reading, good, bad, word_at, long_at, words_of, trimmed, unpadded, read_name, read_path, read_deps, is_known, is_deps, size_of, odd_size, read_body, read_front}
use Rattle.image.specs.Shown.{is_good}
use Rattle.image.proofs.Readings.{front-word, some_least}

-- A good path record's name is not empty, holds no zero and is not known; every id of a good deps record is known.
abbrev pub Told : List (List ℕ) → Record → Type 0
Told known (path name) = (1 ≤ length name) × (holds_zero name ≡ false) × (is_in name known ≡ false)
Told known (deps output mtime inputs) = every (is_known known) (output ∷ inputs) ≡ true

pub bad-first : (b : Bool) (c : Cause) (y : Reading) (r : Record) → cond b (bad c) y ≡ good r → (b ≡ false) × (y ≡ good r)
bad-first true c y r e = absurd (false≢true (ap is_good e))
bad-first false c y r e = (refl, e)

pub bad_last : (b : Bool) (c : Cause) (y : Reading) (r : Record) → cond b y (bad c) ≡ good r → (b ≡ true) × (y ≡ good r)
bad_last true c y r e = (refl, e)
bad_last false c y r e = absurd (false≢true (ap is_good e))

pub same_record : (q r : Record) → good q ≡ good r → q ≡ r
same_record q r e = cc

-- at most n bytes are trimmed
trimmed_least : (n : ℕ) (xs : List ℕ) → length xs ≤ length (trimmed n xs) + n
trimmed_least zero xs = omega arith
trimmed_least (suc n) xs =
    elim (eqb (get_or xs (length xs - 1) 1) 0) as (λ b. length xs ≤ length (cond b (trimmed n (take (length xs - 1) xs)) xs) + suc n) [
      | true ↦ omega (arith, trimmed_least n (take (length xs - 1) xs), length-take-le (length xs - 1) xs (omega arith))
      | false ↦ omega arith
    ]

pub unpadded_least : (xs : List ℕ) → length xs ≤ length (unpadded xs) + 3
unfolding unpadded
unpadded_least xs = trimmed_least 3 xs

path-told : (known : List (List ℕ)) (body : List ℕ) (r : Record) → 8 ≤ length body → read_path known body ≡ good r → Told known r
path-told known body r h e =
    let name : List ℕ = unpadded (take (length body - 4) body) in
    let p = bad_last (eqb (word_at body (length body - 4)) (checksum (length known))) BadChecksum (read_name known name) r e in
    let q = bad-first (holds_zero name || is_in name known) BadName (good (path name)) r p.1 in
    let z = or_parts (holds_zero name) (is_in name known) q.0 in
    let l : 1 ≤ length name = omega (arith, unpadded_least (take (length body - 4) body), length-take-le (length body - 4) body (omega arith)) in
    subst (Told known) (same_record (path name) r q.1) (l, z.0, z.1)

deps-told : (known : List (List ℕ)) (body : List ℕ) (r : Record) → read_deps known body ≡ good r → Told known r
deps-told known body r e =
    let inputs : List ℕ = words_of (length (drop 12 body) / 4) (drop 12 body) in
    let found : Record = deps (word_at body 0) (long_at body 4) inputs in
    let p = bad_last (every (is_known known) (word_at body 0 ∷ inputs)) UnknownId (good found) r e in
    subst (Told known) (same_record found r p.1) p.0

body_told : (known : List (List ℕ)) (w : ℕ) (rest : List ℕ) (r : Record) → read_body known w rest ≡ good r → Told known r
body_told known w rest r e =
    let body : List ℕ = take (size_of w) rest in
    let p = bad-first (ltb (length rest) (size_of w)) TooLong _ r e in
    let q = bad-first (odd_size w) BadSize (cond (is_deps w) (read_deps known body) (read_path known body)) r p.1 in
    let l : length body ≡ size_of w = length-take-le (size_of w) rest (ltb-false (length rest) (size_of w) p.0) in
    elim (cases_Bool (is_deps w)) [
      | inl d ↦ deps-told known body r (ap (λ (b : Bool). cond b (read_deps known body) (read_path known body)) (sym d) ∙ q.1)
      | inr d ↦ path-told known body r (omega (arith, l, some_least w q.0)) (ap (λ (b : Bool). cond b (read_deps known body) (read_path known body)) (sym d) ∙ q.1)
    ]

pub front-told : (known : List (List ℕ)) (xs : List ℕ) (r : Record) → read_front known xs ≡ good r → Told known r
front-told known [] r e = absurd (false≢true (ap is_good e))
front-told known (a ∷ []) r e = absurd (false≢true (ap is_good e))
front-told known (a ∷ b ∷ []) r e = absurd (false≢true (ap is_good e))
front-told known (a ∷ b ∷ c ∷ []) r e = absurd (false≢true (ap is_good e))
front-told known (a ∷ b ∷ c ∷ d ∷ ys) r e =
    let xs : List ℕ = a ∷ b ∷ c ∷ d ∷ ys in body_told known (word_at xs 0) ys r (sym (front-word known xs (omega arith)) ∙ e)
