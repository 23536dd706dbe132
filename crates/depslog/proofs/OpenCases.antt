-- An open, by the way that it took. m is the medium of the closed log before it. Assumes nothing.
use Rattle.std.proofs.Common.{◌≡◌, ℕ, ◌-◌, ◌<◌, ◌≤◌, Bool, true, false, cond, ◌&&◌, ltb, ◌⊎◌, List, length, take, drop, Some, None, Ok, Err, Option, Result, sym, refl, ap, ◌∙◌, subst, inl, inr, arith}
use Rattle.std.proofs.lemmas.List.{take_at}
use Rattle.std.proofs.lemmas.Bool.{cond-true, cond-false, le-ltb, lt-ltb}
use Rattle.medium.specs.declared.Fault.{Fault}
use Rattle.medium.specs.declared.Fault.TheVariants.{Off}
use Rattle.medium.specs.State.{State, with_power}
use Rattle.medium.specs.Calls.{Synced}
use Rattle.terms.specs.declared.At.{At}
use Rattle.terms.specs.declared.Refusal.{Refusal}
use Rattle.terms.specs.declared.Refusal.TheVariants.{PowerOff, PowerLost, Full, CopyShort}
use Rattle.image.specs.declared.cause.Cause.{Cause}
use Rattle.image.specs.declared.filled.Filled.{Filled}
use Rattle.image.specs.Tables.{Table}
use Rattle.image.specs.Scans.{good_bytes, known, filled}
use Rattle.depslog.specs.declared.opened.Opened.{Opened}
use Rattle.depslog.specs.State.{LogState, closed_on, open_on, live_of}
use Rattle.depslog.specs.Checks.{mends, open_fault}
use Rattle.depslog.specs.Replacing.{Replaced}
use Rattle.depslog.specs.Calls.{Judged, Ended, Mended, opened_of, copied, buffer_after, OpenedLog, dark, lit}
use Rattle.depslog.specs.Opening as opening
use Rattle.depslog.specs.Opening.{CopiedLive, CopyWhole, Went, PutInPlace, MendedLive}
use Rattle.depslog.proofs.Faults.{fault-short, fault-room, Readable, unreadable}

-- what stands behind the checks
abbrev Rest : State → Result Opened Refusal → LogState → Type 0
Rest m r t = Ended (Mended (with_power true m)) (known (live_of m)) (opened_of (live_of m)) PowerLost r t

abbrev Checked : State → ℕ → Option Refusal → Result Opened Refusal → LogState → Type 0
Checked m buffer f r t = Judged f (closed_on (with_power true m)) r t (Rest m r t)

same-fault : {A : Type 0} (f k : Refusal) → ◌≡◌ {A = Result A Refusal} (Err f) (Err k) → f ≡ k
same-fault f k e = cc

never : {A : Type 0} (x : A) (f : Refusal) → ◌≡◌ {A = Result A Refusal} (Ok x) (Err f) → ⊥
never x f e = let z : ◌≡◌ {A = ℕ} 0 1 = cc in omega arith

-- by what the checks say
lit_by : (m : State) (buffer after : List ℕ) (r : Result Opened Refusal) (t : LogState) (f : Option Refusal) → open_fault m.capacity (live_of m) (length buffer) ≡ f →
    Checked m (length buffer) f r t → after ≡ buffer_after (live_of m) buffer → OpenedLog (closed_on m) buffer r t after
lit_by m buffer after r t f e j c = lit (record { closed = refl; judged = subst (λ (x : Option Refusal). Checked m (length buffer) x r t) (sym e) j; copy = c })

buffer_kept : (live buffer : List ℕ) → length buffer < length live → buffer ≡ buffer_after live buffer
buffer_kept live buffer h = sym (cond-true (ltb (length buffer) (length live)) buffer (copied live buffer) (lt-ltb (length buffer) (length live) h))

buffer_copied : (live buffer : List ℕ) → length live ≤ length buffer → copied live buffer ≡ buffer_after live buffer
buffer_copied live buffer h = sym (cond-false (ltb (length buffer) (length live)) buffer (copied live buffer) (le-ltb (length buffer) (length live) h))

-- Stopped before the image was read ---------------------------------------------------------------------------------------

pub not-copied : (m n : State) (buffer after : List ℕ) (f : Refusal) → CopiedLive m buffer (Err f) n after → OpenedLog (closed_on m) buffer (Err f) (closed_on n) after
not-copied m n buffer after f (opening.dark d) =
    dark (record { closed = refl; dark = d.dark; answer = ap (λ (k : Refusal). Err k) (same-fault f PowerOff d.answer); log = ap closed_on d.medium; copy = d.copy })
not-copied m n buffer after f (opening.short d) =
    lit_by m buffer after (Err f) (closed_on n) (Some (CopyShort (length (live_of m)))) (fault-short m.capacity (live_of m) (length buffer) d.short)
    (ap (λ (k : Refusal). Err k) (same-fault f (CopyShort (length (live_of m))) d.answer), ap closed_on d.medium) (d.copy ∙ buffer_kept (live_of m) buffer d.short)
not-copied m n buffer after f (opening.whole d) = absurd (never (length (live_of m)) f (sym d.answer))

-- Copied ------------------------------------------------------------------------------------------------------------------

pub copied_is : (m n : State) (buffer after : List ℕ) (len : ℕ) → CopiedLive m buffer (Ok len) n after → CopyWhole m buffer (Ok len) n after
copied_is m n buffer after len (opening.dark d) = absurd (never len PowerOff d.answer)
copied_is m n buffer after len (opening.short d) = absurd (never len (CopyShort (length (live_of m))) d.answer)
copied_is m n buffer after len (opening.whole d) = d

same_length : (a b : ℕ) → ◌≡◌ {A = Result ℕ Refusal} (Ok a) (Ok b) → a ≡ b
same_length a b e = cc

-- the part of the buffer that was copied
pub part-live : (m n : State) (buffer after : List ℕ) (len : ℕ) → CopyWhole m buffer (Ok len) n after → take (len - 0) after ≡ live_of m
part-live m n buffer after len d =
    let l : len - 0 ≡ length (live_of m) = omega (arith, same_length len (length (live_of m)) d.answer) in
    ap (λ (k : ℕ). take k after) l ∙ ap (take (length (live_of m))) d.copy ∙ take_at (live_of m) (drop (length (live_of m)) buffer) (length (live_of m)) refl

-- the image was refused
pub not_read : (m n : State) (buffer after live : List ℕ) (len : ℕ) (f : Refusal) (t : Table) → CopyWhole m buffer (Ok len) n after → live ≡ live_of m → (Err f, t) ≡ filled live →
    OpenedLog (closed_on m) buffer (Err f) (closed_on n) after
not_read m n buffer after live len f t d e k =
    lit_by m buffer after (Err f) (closed_on n) (Some f) (unreadable m.capacity (live_of m) (length buffer) f t d.fits (k ∙ ap filled e)) (refl, ap closed_on d.medium)
    (d.copy ∙ buffer_copied (live_of m) buffer d.fits)

-- Mended ------------------------------------------------------------------------------------------------------------------

-- the medium with its power on
abbrev Lit : State → State
Lit m = with_power true m

abbrev ByMending : Bool → Bool → List ℕ → State → Result (Unit {0}) Refusal → State → Type 0
ByMending b g good m r n = cond b (cond g (opening.NoRoom m r n) (Went (Replaced good m) r n)) (Went (Synced m) r n)

abbrev Done : Bool → List ℕ → State → Result (Unit {0}) Fault → State → Type 0
Done b good m r n = cond b (Replaced good m r n) (Synced m r n)

-- refused for want of room, or the power was lost
mending_refused : (b g : Bool) (good : List ℕ) (m n : State) (f : Refusal) → ByMending b g good m (Err f) n →
    (((b && g) ≡ true) × (f ≡ Full) × (n ≡ m)) ⊎ (((b && g) ≡ false) × (f ≡ PowerLost) × Done b good m (Err Off) n)
mending_refused true true good m n f w = inl (refl, same-fault f Full w.0, w.1)
mending_refused true false good m n f w = elim w [ inl p ↦ absurd (never tt f (sym p.0)) | inr p ↦ inr (refl, same-fault f PowerLost p.0, p.1) ]
mending_refused false g good m n f w = elim w [ inl p ↦ absurd (never tt f (sym p.0)) | inr p ↦ inr (refl, same-fault f PowerLost p.0, p.1) ]

mending_granted : (b g : Bool) (good : List ℕ) (m n : State) → ByMending b g good m (Ok tt) n → ((b && g) ≡ false) × Done b good m (Ok tt) n
mending_granted true true good m n w = absurd (never tt Full w.0)
mending_granted true false good m n w = elim w [ inl p ↦ (refl, p.1) | inr p ↦ absurd (never tt PowerLost p.0) ]
mending_granted false g good m n w = elim w [ inl p ↦ (refl, p.1) | inr p ↦ absurd (never tt PowerLost p.0) ]

pub not-mended : (m n l : State) (buffer after : List ℕ) (len : ℕ) (x : Filled) (t : Table) (f : Refusal) → CopyWhole m buffer (Ok len) l after → Readable (live_of m) x t →
    MendedLive (live_of m) (Lit m) (Err f) n → OpenedLog (closed_on m) buffer (Err f) (closed_on n) after
not-mended m n l buffer after len x t f d q w =
    let live : List ℕ = live_of m in
    let copy = d.copy ∙ buffer_copied live buffer d.fits in
    elim (mending_refused (mends live) (ltb m.capacity (length (good_bytes live))) (good_bytes live) (Lit m) n f w) [
      | inl p ↦ lit_by m buffer after (Err f) (closed_on n) (Some Full) (fault-room m.capacity live (length buffer) true d.fits q.headed q.within p.0)
          (ap (λ (k : Refusal). Err k) p.1, ap closed_on p.2) copy
      | inr p ↦ lit_by m buffer after (Err f) (closed_on n) None (fault-room m.capacity live (length buffer) false d.fits q.headed q.within p.0)
          (inr (record { answer = ap (λ (k : Refusal). Err k) p.1; done = p.2; after = refl })) copy
    ]

pub mended : (m n l : State) (buffer after : List ℕ) (len : ℕ) (x : Filled) (t : Table) → CopyWhole m buffer (Ok len) l after → Readable (live_of m) x t →
    MendedLive (live_of m) (Lit m) (Ok tt) n → OpenedLog (closed_on m) buffer (Ok (record { records = x.records; tail = x.tail })) (open_on t n) after
mended m n l buffer after len x t d q w =
    let live : List ℕ = live_of m in
    let p = mending_granted (mends live) (ltb m.capacity (length (good_bytes live))) (good_bytes live) (Lit m) n w in
    let F : ℕ → Option (At Cause) → Result Opened Refusal = λ k o. Ok (record { records = k; tail = o }) in
    let a = ap (λ (k : ℕ). F k x.tail) q.records ∙ ap (F (opened_of live).records) q.tail in
    lit_by m buffer after (F x.records x.tail) (open_on t n) None (fault-room m.capacity live (length buffer) false d.fits q.headed q.within p.0)
    (inl (record { answer = a; done = p.1; after = ap (λ (u : Table). open_on u n) q.table })) (d.copy ∙ buffer_copied live buffer d.fits)

-- The log's own flag ------------------------------------------------------------------------------------------------------

pub was_closed : (b : Bool) (t : Table) (m : State) (buffer after : List ℕ) (r : Result Opened Refusal) (v : LogState) → b ≡ false → OpenedLog (closed_on m) buffer r v after →
    OpenedLog (cond b (open_on t m) (closed_on m)) buffer r v after
was_closed b t m buffer after r v e o = subst (λ (s : LogState). OpenedLog s buffer r v after) (sym (cond-false b (open_on t m) (closed_on m) e)) o

pub stays_closed : (b : Bool) (t u : Table) (m n : State) (buffer after : List ℕ) (r : Result Opened Refusal) → b ≡ false → OpenedLog (closed_on m) buffer r (closed_on n) after →
    OpenedLog (cond b (open_on t m) (closed_on m)) buffer r (cond b (open_on u n) (closed_on n)) after
stays_closed b t u m n buffer after r e o =
    was_closed b t m buffer after r (cond b (open_on u n) (closed_on n)) e
    (subst (λ (v : LogState). OpenedLog (closed_on m) buffer r v after) (sym (cond-false b (open_on u n) (closed_on n) e)) o)

-- mending, by what the code had in hand
pub mending_of : (m l n : State) (live : List ℕ) (r : Result (Unit {0}) Refusal) → l ≡ Lit m → live ≡ live_of m → MendedLive live l r n → MendedLive (live_of m) (Lit m) r n
mending_of m l n live r e f w = subst (λ (s : State). MendedLive (live_of m) s r n) e (subst (λ (xs : List ℕ). MendedLive xs l r n) f w)
