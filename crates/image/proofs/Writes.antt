-- Writing piece by piece. Assumes nothing.
use Rattle.std.proofs.Common.{◌≡◌, ℕ, ◌+◌, ◌*◌, ◌/◌, ◌%◌, ◌<◌, ◌≤◌, leb, List, [], ◌∷◌, ◌++◌, length, get_or, take, drop, replicate, Ok, Err, Result, sym, refl, ap, ◌∙◌, arith}
use native.Mathlib.Nat.{div-div-eq-div-mul}
use borrow.Rule.Slice.PartMut.{put_mid}
use Rattle.std.proofs.lemmas.List.{append_assoc, take_at, take_more, drop-drop, length-append, length-drop, length-replicate, length-take-le, drop_at}
use Rattle.std.proofs.lemmas.Bool.{cond-true, cond-false, le-leb, lt-leb}
use Rattle.image.specs.declared.writer.TooShort.{TooShort}
use Rattle.image.specs.Bytes.{path, deps, word, long, words, padding, padded, checksum, record_bytes}
use Rattle.image.specs.Written.{written}

-- the buffer begins with `front`, and its other bytes are the old ones
abbrev pub Fronted : List ℕ → List ℕ → List ℕ → Type 0
Fronted front old buf = buf ≡ front ++ drop (length front) old

-- a part at the buffer's beginning that was written over
pub fronted_first : (old part piece : List ℕ) (k : ℕ) → part ≡ piece → k ≡ length piece → Fronted piece old (part ++ drop k old)
fronted_first old part piece k e l = ap (λ (xs : List ℕ). xs ++ drop k old) e ∙ ap (λ (n : ℕ). piece ++ drop n old) l

-- a part behind the front that was written over
pub fronted-more : (front old buf part piece : List ℕ) (at k : ℕ) → Fronted front old buf → at ≡ length front → part ≡ piece → k ≡ length piece →
    Fronted (front ++ piece) old (put_mid at k buf part)
fronted-more front old buf part piece at k f a e l =
    let n : ℕ = length front in
    let t : take n buf ≡ front = ap (take n) f ∙ take_at front (drop n old) n refl in
    let d : drop k (drop n buf) ≡ drop (length (front ++ piece)) old =
    ap (λ (xs : List ℕ). drop k (drop n xs)) f ∙ ap (drop k) (drop_at front (drop n old) n refl) ∙ drop-drop k n old ∙ ap (λ (m : ℕ). drop m old) (omega (arith, l, length-append front piece)) in
    ap (λ (m : ℕ). put_mid m k buf part) a ∙
    ap (λ (xs : List ℕ). xs ++ (part ++ drop k (drop n buf))) t ∙
    ap (λ (ys : List ℕ). front ++ (part ++ ys)) d ∙
    ap (λ (ys : List ℕ). front ++ (ys ++ drop (length (front ++ piece)) old)) e ∙
    sym (append_assoc front piece (drop (length (front ++ piece)) old))

pub length-fronted : (front old buf : List ℕ) → Fronted front old buf → length front ≤ length old → length buf ≡ length old
length-fronted front old buf f h = omega (arith, ap length f, length-append front (drop (length front) old), length-drop (length front) old)

pub length-part : (buf : List ℕ) (at k : ℕ) → at + k ≤ length buf → length (take k (drop at buf)) ≡ k
length-part buf at k h = length-take-le k (drop at buf) (omega (arith, length-drop at buf))

pub words_push : (ns : List ℕ) (n : ℕ) → words (ns ++ n ∷ []) ≡ words ns ++ word n
words_push [] n = refl
words_push (m ∷ ns) n = ap (λ (xs : List ℕ). word m ++ xs) (words_push ns n)

pub length-words : (ns : List ℕ) → length (words ns) ≡ 4 * length ns
length-words [] = refl
length-words (n ∷ ns) = omega (arith, length-words ns)

-- eight bytes are two words
pub long-is : (n : ℕ) → n % 256 ∷ n / 256 % 256 ∷ n / 65536 % 256 ∷ n / 16777216 % 256 ∷ n / 4294967296 % 256 ∷ n / 1099511627776 % 256 ∷ n / 281474976710656 % 256 ∷ n / 72057594037927936 % 256 ∷ [] ≡ long n
long-is n =
    let h : ℕ = n / 4294967296 in
    let a : n / 1099511627776 ≡ h / 256 = sym (div-div-eq-div-mul n 4294967296 256) in
    let b : n / 281474976710656 ≡ h / 65536 = sym (div-div-eq-div-mul n 4294967296 65536) in
    let c : n / 72057594037927936 ≡ h / 16777216 = sym (div-div-eq-div-mul n 4294967296 16777216) in
    let F : ℕ → ℕ → ℕ → List ℕ = λ x y z. n % 256 ∷ n / 256 % 256 ∷ n / 65536 % 256 ∷ n / 16777216 % 256 ∷ h % 256 ∷ x % 256 ∷ y % 256 ∷ z % 256 ∷ [] in
    ap (λ (x : ℕ). F x (n / 281474976710656) (n / 72057594037927936)) a ∙ ap (λ (y : ℕ). F (h / 256) y (n / 72057594037927936)) b ∙ ap (F (h / 256) (h / 65536)) c

-- The calls ----------------------------------------------------------------------------------------------------------------

pub too_short : (bytes old : List ℕ) (need : ℕ) → need ≡ length bytes → length old < need → (Err (record { need = need }), old) ≡ written bytes old
too_short bytes old need e h =
    let F : ℕ → Result ℕ TooShort × List ℕ = λ n. (Err (record { need = n }), old) in
    ap F e ∙ sym (cond-false (leb (length bytes) (length old)) (Ok (length bytes), bytes ++ drop (length bytes) old) (F (length bytes)) (lt-leb (length bytes) (length old) (omega arith)))

-- all of it is written
pub all-written : (bytes old buf : List ℕ) (n : ℕ) → Fronted bytes old buf → n ≡ length bytes → n ≤ length old → (Ok n, buf) ≡ written bytes old
all-written bytes old buf n f e h =
    let F : ℕ → List ℕ → Result ℕ TooShort × List ℕ = λ k xs. (Ok k, xs) in
    let done : List ℕ = bytes ++ drop (length bytes) old in
    ap (λ (k : ℕ). F k buf) e ∙ ap (F (length bytes)) f ∙
    sym (cond-true (leb (length bytes) (length old)) (F (length bytes) done) (Err (record { need = length bytes }), old) (le-leb (length bytes) (length old) (omega arith)))

pub length-padded : (name : List ℕ) → length (padded name) ≡ length name + padding (length name)
length-padded name = length-append name (replicate (padding (length name)) 0) ∙ ap (λ (n : ℕ). length name + n) (length-replicate (padding (length name)) 0)

-- the pieces of a path record, each in its turn
pub path_pieces : (id : ℕ) (name zeros : List ℕ) (w c : ℕ) → zeros ≡ replicate (padding (length name)) 0 → w ≡ length (padded name) + 4 → c ≡ checksum id →
    ((word w ++ name) ++ zeros) ++ word c ≡ record_bytes id (path name)
path_pieces id name zeros w c z e f =
    ap (λ (k : ℕ). ((word k ++ name) ++ zeros) ++ word c) e ∙
    ap (λ (k : ℕ). ((word (length (padded name) + 4) ++ name) ++ zeros) ++ word k) f ∙
    ap (λ (xs : List ℕ). xs ++ word (checksum id)) (append_assoc (word (length (padded name) + 4)) name zeros ∙ ap (λ (xs : List ℕ). word (length (padded name) + 4) ++ (name ++ xs)) z)

pub length-path : (id : ℕ) (name : List ℕ) → length (record_bytes id (path name)) ≡ 4 + (length name + padding (length name) + 4)
length-path id name = omega (arith, length-append (padded name) (word (checksum id)), length-padded name)

pub length-deps : (output mtime : ℕ) (inputs : List ℕ) → length (record_bytes 0 (deps output mtime inputs)) ≡ 4 + (12 + 4 * length inputs)
length-deps output mtime inputs = omega (arith, length-words inputs)

-- what stands before the ids of a deps record
abbrev pub deps-head : ℕ → ℕ → ℕ → List ℕ
deps-head w output mtime = (word w ++ word output) ++ long mtime

pub length-head : (w output mtime : ℕ) (ids : List ℕ) (k : ℕ) → k ≤ length ids → length (deps-head w output mtime ++ words (take k ids)) ≡ 16 + 4 * k
length-head w output mtime ids k h = omega (arith, length-words (take k ids), length-take-le k ids h)

-- an id more
pub words-more : (front ids : List ℕ) (k : ℕ) (piece : List ℕ) → k < length ids → piece ≡ word (get_or ids k 0) →
    (front ++ words (take k ids)) ++ piece ≡ front ++ words (take (k + 1) ids)
words-more front ids k piece h e =
    ap (λ (xs : List ℕ). (front ++ words (take k ids)) ++ xs) e ∙ append_assoc front (words (take k ids)) (word (get_or ids k 0)) ∙
    ap (λ (xs : List ℕ). front ++ xs) (sym (ap words (take_more ids k 0 h) ∙ words_push (take k ids) (get_or ids k 0)))
