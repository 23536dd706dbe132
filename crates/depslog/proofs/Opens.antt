-- The parts of an open. Assumes nothing.
use Rattle.std.proofs.Common.{◌≡◌, ℕ, ◌<◌, ◌≤◌, Bool, true, false, cond, List, [], ◌∷◌, ◌++◌, length, take, drop, is_err, Ok, Err, Result, sym, refl, ap, ◌∙◌, subst, inl, inr, arith}
use Rattle.std.specs.Str.{bytes_eq}
use Rattle.std.proofs.lemmas.Slice.Eq.{bytes_eq-Decides}
use Rattle.std.proofs.lemmas.List.{take_all, length-take-le}
use Rattle.std.proofs.lemmas.Bool.{cases_Bool, not_from_true, not_from_false, true≢false}
use Rattle.medium.specs.State.{State, with_power}
use Rattle.medium.specs.declared.Fault.{Fault}
use Rattle.medium.specs.declared.Fault.TheVariants.{Off, Full}
use Rattle.medium.specs.Calls.{Synced, Returned, reach, filled}
use Rattle.terms.specs.declared.Refusal.{Refusal}
use Rattle.image.specs.Bytes.{header}
use Rattle.image.specs.Scans.{scanned, image_of, good_bytes}
use Rattle.depslog.specs.State.{live_of}
use Rattle.depslog.specs.Checks.{mends}
use Rattle.depslog.specs.Calls.{copied}
use Rattle.depslog.specs.Opening.{CopiedLive, whole, PutInPlace, Went, MendedLive}

-- Power --------------------------------------------------------------------------------------------------------------------

pub returned_on : (m n : State) (r : Result (Unit {0}) Fault) → Returned m r n → is_err r ≡ false → n ≡ with_power true m
returned_on m n (Ok x) h e = h
returned_on m n (Err f) h e = absurd (true≢false e)

-- a sync is refused only as off
pub synced-off : (m n : State) (f : Fault) → Synced {A = Unit {0}} m (Err f) n → Synced {A = Unit {0}} m (Err Off) n
synced-off m n Off h = h
synced-off m n Full h = absurd h.over

-- Copying ------------------------------------------------------------------------------------------------------------------

pub copied-whole : (m n : State) (buffer after : List ℕ) (len count : ℕ) → n ≡ with_power true m → len ≡ length (live_of n) → len ≤ length buffer →
    count ≡ reach 0 n (length buffer) → after ≡ filled 0 count n buffer → CopiedLive m buffer (Ok len) n after
copied-whole m n buffer after len count e l h c f =
    let live : live_of n ≡ live_of m = ap live_of e in
    let k : count ≡ length (live_of n) = omega (arith, c, l, h) in
    let all : filled 0 count n buffer ≡ copied (live_of n) buffer =
    ap (λ (j : ℕ). filled 0 j n buffer) k ∙ ap (λ (xs : List ℕ). xs ++ drop (length (live_of n)) buffer) (take_all (length (live_of n)) (live_of n) (omega arith)) in
    whole (record {
      fits = omega (arith, l, h, ap length live);
      answer = ap (λ (j : ℕ). Ok j) (l ∙ ap length live);
      medium = e;
      copy = f ∙ all ∙ ap (λ (xs : List ℕ). copied xs buffer) live;
    })

-- Mending ------------------------------------------------------------------------------------------------------------------

image_is : (live : List ℕ) → 0 < length live → image_of live ≡ live
image_is [] h = absurd (omega arith)
image_is (x ∷ xs) h = refl

same_self : (xs : List ℕ) → bytes_eq xs xs ≡ true
same_self xs = (bytes_eq-Decides xs xs).1 refl

same_not : (xs ys : List ℕ) → length xs < length ys → bytes_eq xs ys ≡ false
same_not xs ys h =
    elim (cases_Bool (bytes_eq xs ys)) [ inl t ↦ absurd (omega (arith, ap length ((bytes_eq-Decides xs ys).0 t))) | inr f ↦ f ]

good-is : (live : List ℕ) (good : ℕ) → 0 < length live → good ≡ (scanned live).past → good_bytes live ≡ take good live
good-is live good p e = ap (λ (n : ℕ). take n (image_of live)) (sym e) ∙ ap (take good) (image_is live p)

pub mends-short : (live : List ℕ) (good : ℕ) → 0 < length live → good ≡ (scanned live).past → good < length live → mends live ≡ true
mends-short live good p e h =
    let g : good_bytes live ≡ take good live = good-is live good p e in
    let l : length (take good live) ≡ good = length-take-le good live (omega arith) in
    not_from_false (bytes_eq (good_bytes live) live) (ap (λ (xs : List ℕ). bytes_eq xs live) g ∙ same_not (take good live) live (omega arith))

pub mends-not : (live : List ℕ) (good : ℕ) → 0 < length live → good ≡ (scanned live).past → length live ≤ good → mends live ≡ false
mends-not live good p e h =
    let g : good_bytes live ≡ live = good-is live good p e ∙ take_all good live h in
    not_from_true (bytes_eq (good_bytes live) live) (ap (λ (xs : List ℕ). bytes_eq xs live) g ∙ same_self live)

-- no bytes are mended to the bare header
pub mended-empty : (live : List ℕ) (m : State) (r : Result (Unit {0}) Refusal) (n : State) → length live ≡ 0 → PutInPlace header m r n → MendedLive live m r n
mended-empty [] m r n e w = w
mended-empty (x ∷ xs) m r n e w = absurd (omega (arith, e))

pub mended-short : (live : List ℕ) (good : ℕ) (m : State) (r : Result (Unit {0}) Refusal) (n : State) → 0 < length live → good ≡ (scanned live).past → good < length live →
    PutInPlace (take good live) m r n → MendedLive live m r n
mended-short live good m r n p e h w =
    let g : take good live ≡ good_bytes live = sym (good-is live good p e) in
    subst (λ (b : Bool). cond b (PutInPlace (good_bytes live) m r n) (Went (Synced m) r n)) (sym (mends-short live good p e h)) (subst (λ (xs : List ℕ). PutInPlace xs m r n) g w)

pub mended-not : (live : List ℕ) (good : ℕ) (m : State) (r : Result (Unit {0}) Refusal) (n : State) → 0 < length live → good ≡ (scanned live).past → length live ≤ good →
    Went (Synced m) r n → MendedLive live m r n
mended-not live good m r n p e h w =
    subst (λ (b : Bool). cond b (PutInPlace (good_bytes live) m r n) (Went (Synced m) r n)) (sym (mends-not live good p e h)) w
