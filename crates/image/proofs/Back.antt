-- A record reads back. Assumes nothing.
use Rattle.std.proofs.Common.{◌≡◌, ℕ, zero, suc, ◌+◌, ◌-◌, ◌*◌, ◌/◌, ◌%◌, ◌^◌, ◌<◌, ◌≤◌, Bool, true, false, cond, not, ◌||◌, eqb, ltb, List, [], ◌∷◌, ◌++◌, length, take, drop, sym, refl, ap, ◌∙◌, subst, inl, inr, arith}
use Rattle.std.proofs.lemmas.List.{length-take-le, length-append, take_at, drop_at}
use Rattle.std.proofs.lemmas.Bool.{lt-ltb, and_parts, le-ltb, le-leb, lt-leb, eq-eqb, ltb-true, not_from_true, or_from, cond-true, cond-false}
use Rattle.image.specs.declared.cause.Cause.TheVariants.{NoWord, TooLong, BadSize, BadChecksum, BadName, UnknownId}
use Rattle.terms.specs.Lists.{every, is_in}
use Rattle.terms.specs.Names.{holds_zero}
use Rattle.image.specs.Bytes.{Record, path, deps, word, long, words, padding, padded, checksum, record_bytes}
use Rattle.image.specs.Reading.{Reading, good, bad, word_at, long_at, words_of, unpadded, read_name, read_path, read_deps, is_known, is_deps, size_of, odd_size, read_body, read_front, next_offset}
use Rattle.image.specs.Laws.{Writable, Torn}
use Rattle.image.proofs.Loops.{word_at-drop}
use Rattle.image.proofs.Naming.{name-parts}
use Rattle.image.proofs.Word.{word_at-word, long_at-long, words_of-words, unpadded-zeros}
use Rattle.image.proofs.Writes.{length-words, length-padded}

pub word_first : (known : List (List ℕ)) (w : ℕ) (xs : List ℕ) → w < 2 ^ 32 → read_front known (word w ++ xs) ≡ read_body known w xs
word_first known w xs h =
    cond-false (ltb (length (word w ++ xs)) 4) (bad NoWord) _ (le-ltb (length (word w ++ xs)) 4 (omega arith)) ∙
    ap (λ (v : ℕ). read_body known v xs) (word_at-word w xs h)

pub body_whole : (known : List (List ℕ)) (w : ℕ) (body rest : List ℕ) → size_of w ≡ length body → odd_size w ≡ false →
    read_body known w (body ++ rest) ≡ cond (is_deps w) (read_deps known body) (read_path known body)
body_whole known w body rest e o =
    cond-false (ltb (length (body ++ rest)) (size_of w)) (bad TooLong) _ (le-ltb (length (body ++ rest)) (size_of w) (omega (arith, length-append body rest))) ∙
    cond-false (odd_size w) (bad BadSize) _ o ∙
    ap (λ (b : List ℕ). cond (is_deps w) (read_deps known b) (read_path known b)) (take_at body rest (size_of w) (sym e))

-- Deps -----------------------------------------------------------------------------------------------------------------

abbrev pub deps_body : ℕ → ℕ → List ℕ → List ℕ
deps_body output mtime inputs = word output ++ long mtime ++ words inputs

pub length-deps : (output mtime : ℕ) (inputs : List ℕ) → length (deps_body output mtime inputs) ≡ 12 + 4 * length inputs
length-deps output mtime inputs = omega (arith, length-words inputs)

pub deps_body_lem : (known : List (List ℕ)) (output mtime : ℕ) (inputs : List ℕ) → Writable known (deps output mtime inputs) →
    read_deps known (deps_body output mtime inputs) ≡ good (deps output mtime inputs)
deps_body_lem known output mtime inputs s =
    let k : length known ≤ 2 ^ 32 = omega (arith, s.3) in
    let p = and_parts (ltb output (length known)) (every (is_known known) inputs) s.0 in
    let l : output < length known = ltb-true output (length known) p.0 in
    let o : word_at (deps_body output mtime inputs) 0 ≡ output = word_at-word output (long mtime ++ words inputs) (omega arith) in
    let m : long_at (deps_body output mtime inputs) 4 ≡ mtime = long_at-long output mtime (words inputs) s.1 in
    let n : length (words inputs) / 4 ≡ length inputs = omega (arith, length-words inputs) in
    let i : words_of (length (words inputs) / 4) (words inputs) ≡ inputs =
    ap (λ (j : ℕ). words_of j (words inputs)) n ∙ words_of-words (length known) inputs k p.1 in
    let F : ℕ → ℕ → List ℕ → Reading = λ a b cs. cond (every (is_known known) (a ∷ cs)) (good (deps a b cs)) (bad UnknownId) in
    let mt : ℕ = long_at (deps_body output mtime inputs) 4 in
    let ids : List ℕ = words_of (length (words inputs) / 4) (words inputs) in
    ap (λ (a : ℕ). F a mt ids) o ∙ ap (λ (b : ℕ). F output b ids) m ∙ ap (λ (cs : List ℕ). F output mtime cs) i ∙
    cond-true (every (is_known known) (output ∷ inputs)) _ _ s.0

-- Paths ----------------------------------------------------------------------------------------------------------------

abbrev pub path_body : ℕ → List ℕ → List ℕ
path_body id name = padded name ++ word (checksum id)

pub length-path : (id : ℕ) (name : List ℕ) → length (path_body id name) ≡ length (padded name) + 4
length-path id name = length-append (padded name) (word (checksum id))

pub path_body_lem : (known : List (List ℕ)) (name : List ℕ) → Writable known (path name) → read_path known (path_body (length known) name) ≡ good (path name)
path_body_lem known name s =
    let id : ℕ = length known in
    let body : List ℕ = path_body id name in
    let q = name-parts name s.0 in
    let n : length (padded name) ≡ length body - 4 = omega (arith, length-path id name) in
    let w : word_at body (length body - 4) ≡ checksum id =
    word_at-drop body (length body - 4) ∙ ap (λ (xs : List ℕ). word_at xs 0) (drop_at (padded name) (word (checksum id)) (length body - 4) n) ∙
    word_at-word (checksum id) [] (omega arith) in
    let t : unpadded (take (length body - 4) body) ≡ name =
    ap unpadded (take_at (padded name) (word (checksum id)) (length body - 4) n) ∙ unpadded-zeros (padding (length name)) name (omega arith) q.clear in
    cond-true (eqb (word_at body (length body - 4)) (checksum id)) _ (bad BadChecksum) (eq-eqb (word_at body (length body - 4)) (checksum id) w) ∙
    ap (read_name known) t ∙
    cond-false (holds_zero name || is_in name known) (bad BadName) _ (or_from (holds_zero name) (is_in name known) q.clear s.1)

-- Either ---------------------------------------------------------------------------------------------------------------

odd_path : (w : ℕ) → is_deps w ≡ false → size_of w % 4 ≡ 0 → 8 ≤ size_of w → odd_size w ≡ false
odd_path w d f h =
    or_from (not (eqb (size_of w % 4) 0)) _ (not_from_true (eqb (size_of w % 4) 0) (eq-eqb (size_of w % 4) 0 f))
    (ap (λ (b : Bool). ltb (size_of w) (cond b 12 8)) d ∙ le-ltb (size_of w) 8 h)

odd_deps : (w : ℕ) → is_deps w ≡ true → size_of w % 4 ≡ 0 → 12 ≤ size_of w → odd_size w ≡ false
odd_deps w d f h =
    or_from (not (eqb (size_of w % 4) 0)) _ (not_from_true (eqb (size_of w % 4) 0) (eq-eqb (size_of w % 4) 0 f))
    (ap (λ (b : Bool). ltb (size_of w) (cond b 12 8)) d ∙ le-ltb (size_of w) 12 h)

-- the word that a record begins with, and what follows it
abbrev pub head_of : Record → ℕ
head_of (path name) = length (padded name) + 4
head_of (deps output mtime inputs) = 2147483648 + (12 + 4 * length inputs)

abbrev pub body_of : ℕ → Record → List ℕ
body_of id (path name) = path_body id name
body_of id (deps output mtime inputs) = deps_body output mtime inputs

pub shape : (id : ℕ) (r : Record) → record_bytes id r ≡ word (head_of r) ++ body_of id r
shape id (path name) = refl
shape id (deps output mtime inputs) = refl

pub shape-rest : (id : ℕ) (r : Record) (rest : List ℕ) → record_bytes id r ++ rest ≡ word (head_of r) ++ (body_of id r ++ rest)
shape-rest id (path name) rest = refl
shape-rest id (deps output mtime inputs) rest = refl

pub record Sized (known : List (List ℕ)) (r : Record) : Type 0 where
  pub fits : head_of r < 2 ^ 32
  pub size : size_of (head_of r) ≡ length (body_of (length known) r)
  pub even : odd_size (head_of r) ≡ false
  pub back : cond (is_deps (head_of r)) (read_deps known (body_of (length known) r)) (read_path known (body_of (length known) r)) ≡ good r

pub sized : (known : List (List ℕ)) (r : Record) → Writable known r → Sized known r
sized known (path name) s =
    let q = name-parts name s.0 in
    let l : 1 ≤ length name = q.some in
    let m : length name ≤ 120 = q.short in
    let w : ℕ = length (padded name) + 4 in
    let e : w ≡ length name + padding (length name) + 4 = omega (arith, length-padded name) in
    let small : w < 128 = omega (arith, e) in
    let four : w % 4 ≡ 0 = omega (arith, e) in
    let z : size_of w ≡ w = omega arith in
    let d : is_deps w ≡ false = lt-leb 2147483648 w (omega arith) in
    record {
      fits = omega arith;
      size = omega (arith, length-path (length known) name);
      even = odd_path w d (omega arith) (omega arith);
      back = cond-false (is_deps w) _ (read_path known (path_body (length known) name)) d ∙ path_body_lem known name s;
    }
sized known (deps output mtime inputs) s =
    let w : ℕ = 2147483648 + (12 + 4 * length inputs) in
    let f : length inputs ≤ 64 = s.2 in
    let z : size_of w ≡ 12 + 4 * length inputs = omega arith in
    let d : is_deps w ≡ true = le-leb 2147483648 w (omega arith) in
    record {
      fits = omega arith;
      size = omega (arith, length-deps output mtime inputs);
      even = odd_deps w d (omega arith) (omega arith);
      back = cond-true (is_deps w) (read_deps known (deps_body output mtime inputs)) _ d ∙ deps_body_lem known output mtime inputs s;
    }

-- A writable record reads back, whatever follows it.
pub reads-back : (known : List (List ℕ)) (r : Record) (rest : List ℕ) → Writable known r → read_front known (record_bytes (length known) r ++ rest) ≡ good r
reads-back known r rest s =
    let z = sized known r s in
    ap (read_front known) (shape-rest (length known) r rest) ∙
    word_first known (head_of r) (body_of (length known) r ++ rest) z.fits ∙
    body_whole known (head_of r) (body_of (length known) r) rest z.size z.even ∙
    z.back

-- it takes 12 bytes or more
pub record_least : (known : List (List ℕ)) (r : Record) → Writable known r → 1 ≤ length (record_bytes (length known) r)
record_least known (path name) w = omega arith
record_least known (deps output mtime inputs) w = omega arith

-- the next record begins behind it
pub next-behind : (known : List (List ℕ)) (image : List ℕ) (at : ℕ) (r : Record) (rest : List ℕ) → Writable known r → drop at image ≡ record_bytes (length known) r ++ rest →
    next_offset image at (good r) ≡ at + length (record_bytes (length known) r)
next-behind known image at r rest s e =
    let z = sized known r s in
    let w : word_at image at ≡ head_of r =
    word_at-drop image at ∙ ap (λ (xs : List ℕ). word_at xs 0) (e ∙ shape-rest (length known) r rest) ∙ word_at-word (head_of r) (body_of (length known) r ++ rest) z.fits in
    let l : length (record_bytes (length known) r) ≡ length (word (head_of r) ++ body_of (length known) r) = ap length (shape (length known) r) in
    omega (arith, ap size_of w, z.size, l)

-- A first part ---------------------------------------------------------------------------------------------------------

torn : (known : List (List ℕ)) (w : ℕ) (body : List ℕ) (n : ℕ) → w < 2 ^ 32 → size_of w ≡ length body → 0 < n → n < 4 + length body → Torn (read_front known (take n (word w ++ body)))
torn known w body zero f s p h = absurd (omega arith)
torn known w body (suc zero) f s p h = inl refl
torn known w body (suc (suc zero)) f s p h = inl refl
torn known w body (suc (suc (suc zero))) f s p h = inl refl
torn known w body (suc (suc (suc (suc m)))) f s p h =
    let l : length (take m body) ≡ m = length-take-le m body (omega arith) in
    inr (word_first known w (take m body) f ∙
    cond-true (ltb (length (take m body)) (size_of w)) (bad TooLong) _ (lt-ltb (length (take m body)) (size_of w) (omega (arith, l))))

-- A proper first part of a record is bad, with the first or the second cause.
pub part-torn : (known : List (List ℕ)) (r : Record) (n : ℕ) → Writable known r → 0 < n → n < length (record_bytes (length known) r) →
    Torn (read_front known (take n (record_bytes (length known) r)))
part-torn known r n s p h =
    let z = sized known r s in
    let e = shape (length known) r in
    subst (λ (xs : List ℕ). Torn (read_front known (take n xs))) (sym e)
    (torn known (head_of r) (body_of (length known) r) n z.fits z.size p (omega (arith, ap length e)))
