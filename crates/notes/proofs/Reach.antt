-- The good records of an image, one after the other. Assumes nothing.
use Rattle.std.proofs.Common.{◌≡◌, ℕ, zero, suc, ◌+◌, ◌*◌, ◌≤◌, false, ltb, List, [], ◌∷◌, ◌++◌, length, take, drop, Some, None, Option, sym, refl, ap, ◌∙◌, subst, le_refl, arith}
use Rattle.std.proofs.lemmas.List.{length-append, length-drop, take-append-le, drop-append-le}
use Rattle.std.proofs.lemmas.Bool.{le-ltb, true≢false}
use Rattle.terms.specs.declared.At.{At}
use Rattle.image.specs.declared.cause.Cause.{Cause}
use Rattle.image.specs.Bytes.{Record}
use Rattle.image.specs.Reading.{Reading, good, bad, end, word_at, size_of, read_body, read_front, next_offset}
use Rattle.image.specs.Tables.{Table, learn}
use Rattle.image.specs.Scans.{Scan, found, stopped, scan}
use Rattle.image.proofs.Loops.{word_at-drop}
use Rattle.image.specs.Shown.{is_good}
use Rattle.image.proofs.Readings.{front-word, front-good}
use Rattle.image.proofs.Fills.{scan_good, scan-bad, scan-end}

-- What is read of a first part that holds the record ---------------------------------------------------------------------

word-part : (xs rest : List ℕ) → 4 ≤ length xs → word_at (xs ++ rest) 0 ≡ word_at xs 0
word-part [] rest h = absurd (omega arith)
word-part (a ∷ []) rest h = absurd (omega arith)
word-part (a ∷ b ∷ []) rest h = absurd (omega arith)
word-part (a ∷ b ∷ c ∷ []) rest h = absurd (omega arith)
word-part (a ∷ b ∷ c ∷ d ∷ ys) rest h = refl

body_part : (known : List (List ℕ)) (w : ℕ) (ys rest : List ℕ) → size_of w ≤ length ys → read_body known w (ys ++ rest) ≡ read_body known w ys
body_part known w ys rest h =
    let a : ltb (length (ys ++ rest)) (size_of w) ≡ false = le-ltb (length (ys ++ rest)) (size_of w) (omega (arith, length-append ys rest)) in
    let b : ltb (length ys) (size_of w) ≡ false = le-ltb (length ys) (size_of w) h in
    let c : take (size_of w) (ys ++ rest) ≡ take (size_of w) ys = take-append-le (size_of w) ys rest h in
    simp (a, b, c)

front-part : (known : List (List ℕ)) (xs rest : List ℕ) → 4 ≤ length xs → 4 + size_of (word_at xs 0) ≤ length xs → read_front known (xs ++ rest) ≡ read_front known xs
front-part known xs rest h l =
    front-word known (xs ++ rest) (omega (arith, length-append xs rest)) ∙
    ap (λ (w : ℕ). read_body known w (drop 4 (xs ++ rest))) (word-part xs rest h) ∙
    ap (read_body known (word_at xs 0)) (drop-append-le 4 xs rest h) ∙
    body_part known (word_at xs 0) (drop 4 xs) rest (omega (arith, length-drop 4 xs)) ∙
    sym (front-word known xs h)

-- Records one after the other --------------------------------------------------------------------------------------------

-- From a table and an offset on, the image has these good records, which lead to another table and offset.
pub data Reach (image : List ℕ) : Table → ℕ → List (At Record) → Table → ℕ → Type 0 where
  here : {t : Table} {at : ℕ} → Reach image t at [] t at
  step : {t u : Table} {at past : ℕ} {r : Record} {rs : List (At Record)} → read_front t.names (drop at image) ≡ good r →
      Reach image (learn t r) (next_offset image at (good r)) rs u past → Reach image t at (record { offset = at; value = r } ∷ rs) u past

-- a good record's bytes are there
record Inside (image : List ℕ) (at : ℕ) (r : Record) : Type 0 where
  front : 4 ≤ length (drop at image)
  all : 4 + size_of (word_at (drop at image) 0) ≤ length (drop at image)
  next : next_offset image at (good r) ≡ at + 4 + size_of (word_at (drop at image) 0)

inside : (known : List (List ℕ)) (image : List ℕ) (at : ℕ) (r : Record) → read_front known (drop at image) ≡ good r → Inside image at r
inside known image at r e =
    let q = front-good known (drop at image) (ap is_good e) in
    record { front = q.0; all = q.1; next = ap (λ (w : ℕ). at + 4 + size_of w) (word_at-drop image at) }

-- each takes some bytes, and all are within the image
pub reach-within : {image : List ℕ} {t u : Table} {at past : ℕ} {rs : List (At Record)} → Reach image t at rs u past → at ≤ length image → (at + 4 * length rs ≤ past) × (past ≤ length image)
reach-within here h = (omega arith, h)
reach-within {image} {t} {at = at} (step {r = r} e w) h =
    let i = inside t.names image at r e in
    let q = reach-within w (omega (arith, i.next, i.all, length-drop at image)) in
    (omega (arith, q.0, i.next), q.1)

rises : {image : List ℕ} {t u : Table} {at past : ℕ} {rs : List (At Record)} → Reach image t at rs u past → at ≤ past
rises here = le_refl _
rises (step e w) = let q = rises w in omega (arith, q)

next-part : (image more : List ℕ) (at : ℕ) (r : Record) → at ≤ length image → 4 ≤ length (drop at image) → next_offset (image ++ more) at (good r) ≡ next_offset image at (good r)
next-part image more at r h l =
    ap (λ (w : ℕ). at + 4 + size_of w)
    (word_at-drop (image ++ more) at ∙ ap (λ (xs : List ℕ). word_at xs 0) (drop-append-le at image more h) ∙ word-part (drop at image) more l ∙ sym (word_at-drop image at))

-- what follows the image changes none of them
pub reach-stays : (image more : List ℕ) {t u : Table} {at past : ℕ} {rs : List (At Record)} → Reach image t at rs u past → at ≤ length image → Reach (image ++ more) t at rs u past
reach-stays image more here h = here
reach-stays image more {t} {u} {at} {past} (step {r = r} {rs = rs} e w) h =
    let i = inside t.names image at r e in
    let g : read_front t.names (drop at (image ++ more)) ≡ good r =
    ap (read_front t.names) (drop-append-le at image more h) ∙ front-part t.names (drop at image) more i.front i.all ∙ e in
    let n : next_offset (image ++ more) at (good r) ≡ next_offset image at (good r) = next-part image more at r h i.front in
    step g (subst (λ (x : ℕ). Reach (image ++ more) (learn t r) x rs u past) (sym n) (reach-stays image more w (omega (arith, i.next, i.all, length-drop at image))))

-- nor does what is cut away behind them
pub reach-part : (image more : List ℕ) {t u : Table} {at past : ℕ} {rs : List (At Record)} → Reach (image ++ more) t at rs u past → past ≤ length image → Reach image t at rs u past
reach-part image more here h = here
reach-part image more {t} {u} {at} {past} (step {r = r} {rs = rs} e w) h =
    let i = inside t.names (image ++ more) at r e in
    let q = rises w in
    let a : at ≤ length image = omega (arith, q, i.next) in
    let d : drop at (image ++ more) ≡ drop at image ++ more = drop-append-le at image more a in
    let l : 4 ≤ length (drop at image) = omega (arith, q, i.next, length-drop at image) in
    let v : word_at (drop at (image ++ more)) 0 ≡ word_at (drop at image) 0 = ap (λ (xs : List ℕ). word_at xs 0) d ∙ word-part (drop at image) more l in
    let g : read_front t.names (drop at image) ≡ good r =
    sym (front-part t.names (drop at image) more l (omega (arith, q, i.next, ap size_of v, length-drop at image))) ∙ ap (read_front t.names) (sym d) ∙ e in
    step g (subst (λ (x : ℕ). Reach image (learn t r) x rs u past) (next-part image more at r a l) (reach-part image more w h))

pub reach-on : {image : List ℕ} {t u v : Table} {at past end : ℕ} {rs ss : List (At Record)} → Reach image t at rs u past → Reach image u past ss v end → Reach image t at (rs ++ ss) v end
reach-on here w = w
reach-on (step e p) w = step e (reach-on p w)

-- The scan follows them --------------------------------------------------------------------------------------------------

abbrev Reached : List ℕ → Table → ℕ → Scan → Type 0
Reached image t at s = Reach image t at s.records s.table s.past

by_reading : (f : ℕ) (image : List ℕ) (t : Table) (at : ℕ) (x : Reading) → read_front t.names (drop at image) ≡ x →
    ((r : Record) → Reached image (learn t r) (next_offset image at (good r)) (scan f image (learn t r) (next_offset image at (good r)))) → Reached image t at (scan (suc f) image t at)
by_reading f image t at (good r) e k = subst (Reached image t at) (sym (scan_good f image t at r e)) (step e (k r))
by_reading f image t at (bad c) e k = subst (Reached image t at) (sym (scan-bad f image t at c e)) here
by_reading f image t at end e k = subst (Reached image t at) (sym (scan-end f image t at e)) here

-- what a scan says is there
pub reach-scan : (f : ℕ) (image : List ℕ) (t : Table) (at : ℕ) → Reach image t at (scan f image t at).records (scan f image t at).table (scan f image t at).past
reach-scan zero image t at = here
reach-scan (suc f) image t at =
    by_reading f image t at (read_front t.names (drop at image)) refl (λ r. reach-scan f image (learn t r) (next_offset image at (good r)))

-- the tail that a reading leaves
abbrev pub tail_of : ℕ → Reading → Option (At Cause)
tail_of at (good r) = None
tail_of at (bad c) = Some (record { offset = at; value = c })
tail_of at end = None

scan_stop : (f : ℕ) (image : List ℕ) (t : Table) (at : ℕ) (x : Reading) → is_good x ≡ false → read_front t.names (drop at image) ≡ x → scan (suc f) image t at ≡ stopped t at (tail_of at x)
scan_stop f image t at (good r) g e = absurd (true≢false g)
scan_stop f image t at (bad c) g e = scan-bad f image t at c e
scan_stop f image t at end g e = scan-end f image t at e

abbrev turns : List (At Record) → ℕ → ℕ
turns [] f = suc f
turns (r ∷ rs) f = suc (turns rs f)

pub turns_are : (rs : List (At Record)) (f : ℕ) → turns rs f ≡ suc (length rs + f)
turns_are [] f = omega arith
turns_are (r ∷ rs) f = omega (arith, turns_are rs f)

-- with a turn for each, and one for what stops it
pub scan-reach : {image : List ℕ} {t u : Table} {at past : ℕ} {rs : List (At Record)} (f : ℕ) (x : Reading) → Reach image t at rs u past → read_front u.names (drop past image) ≡ x → is_good x ≡ false →
    scan (turns rs f) image t at ≡ record { records = rs; table = u; past = past; tail = tail_of past x }
scan-reach {image} {t} {at = at} f x here e g = scan_stop f image t at x g e
scan-reach {image} {t} {at = at} f x (step {r = r} {rs = rs} h w) e g = scan_good (turns rs f) image t at r h ∙ ap (found at r) (scan-reach f x w e g)
