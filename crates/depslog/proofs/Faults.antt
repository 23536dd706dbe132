-- What the checks of an open say. Assumes nothing.
use Rattle.std.proofs.Common.{◌≡◌, ℕ, ◌+◌, ◌<◌, ◌≤◌, Bool, true, false, cond, not, ◌&&◌, ltb, List, length, Some, None, Ok, Err, Option, Result, sym, refl, ap, ◌∙◌, arith}
use Rattle.std.proofs.lemmas.Bool.{cond-true, cond-false, lt-ltb, le-ltb}
use Rattle.terms.specs.declared.Refusal.{Refusal}
use Rattle.terms.specs.declared.Refusal.TheVariants.{Full, NoHeader, OverLimit, CopyShort}
use Rattle.image.specs.declared.filled.Filled.{Filled}
use Rattle.image.specs.Tables.{Table, bare}
use Rattle.image.specs.Scans.{has_header, image_of, over_limit, good_bytes, scanned, known, fill_from, filled}
use Rattle.depslog.specs.Checks.{refuse, mends, over_fault, open_fault}

-- no room for the good bytes, where they differ
abbrev pub full : ℕ → List ℕ → Bool
full capacity live = mends live && ltb capacity (length (good_bytes live))

pub fault-short : (capacity : ℕ) (live : List ℕ) (buffer : ℕ) → buffer < length live → open_fault capacity live buffer ≡ Some (CopyShort (length live))
fault-short capacity live buffer h = cond-true (ltb buffer (length live)) (Some (CopyShort (length live))) _ (lt-ltb buffer (length live) h)

abbrev later : ℕ → List ℕ → Bool → Option ℕ → Bool → Option Refusal
later capacity live headed over isFull = refuse NoHeader (not headed) (over_fault over (refuse Full isFull None))

past-short : (capacity : ℕ) (live : List ℕ) (buffer : ℕ) → length live ≤ buffer → open_fault capacity live buffer ≡ later capacity live (has_header (image_of live)) (over_limit live) (full capacity live)
past-short capacity live buffer h = cond-false (ltb buffer (length live)) (Some (CopyShort (length live))) _ (le-ltb buffer (length live) h)

-- an image within the limits: what is left is the room
pub fault-room : (capacity : ℕ) (live : List ℕ) (buffer : ℕ) (b : Bool) → length live ≤ buffer → has_header (image_of live) ≡ true → over_limit live ≡ None → full capacity live ≡ b →
    open_fault capacity live buffer ≡ refuse Full b None
fault-room capacity live buffer b h e o f =
    past-short capacity live buffer h ∙
    ap (λ (x : Bool). later capacity live x (over_limit live) (full capacity live)) e ∙
    ap (λ (x : Option ℕ). later capacity live true x (full capacity live)) o ∙
    ap (λ (x : Bool). later capacity live true None x) f

-- What filling a table says -----------------------------------------------------------------------------------------------

abbrev Answer : Type 0
Answer = Result Filled Refusal × Table

-- what a granted filling says of the image
pub record Readable (live : List ℕ) (x : Filled) (t : Table) : Type 0 where
  pub headed : has_header (image_of live) ≡ true
  pub within : over_limit live ≡ None
  pub records : x.records ≡ length (scanned live).records
  pub past : x.length ≡ (scanned live).past
  pub tail : x.tail ≡ (scanned live).tail
  pub table : t ≡ known live

-- the answer by the header and by the first record over a limit
abbrev outcome : List ℕ → Bool → Option ℕ → Answer
outcome live headed over = cond headed (fill_from 0 over (scanned live)) (Err NoHeader, bare)

outcome-is : (live : List ℕ) (b : Bool) (o : Option ℕ) → has_header (image_of live) ≡ b → over_limit live ≡ o → filled live ≡ outcome live b o
outcome-is live b o e f = ap (λ (x : Bool). outcome live x (over_limit live)) e ∙ ap (outcome live b) f

same_ok : (x y : Filled) (t u : Table) → ◌≡◌ {A = Answer} (Ok x, t) (Ok y, u) → (x ≡ y) × (t ≡ u)
same_ok x y t u e = let q = ap (λ (p : Answer). p.0) e in (cc, ap (λ (p : Answer). p.1) e)

same_err : (f k : Refusal) (t u : Table) → ◌≡◌ {A = Answer} (Err f, t) (Err k, u) → f ≡ k
same_err f k t u e = let q = ap (λ (p : Answer). p.0) e in cc

not-both : (x : Filled) (f : Refusal) (t u : Table) → ◌≡◌ {A = Answer} (Ok x, t) (Err f, u) → ⊥
not-both x f t u e = let q = ap (λ (p : Answer). p.0) e in let z : ◌≡◌ {A = ℕ} 0 1 = cc in omega arith

read_ok : (live : List ℕ) (x : Filled) (t : Table) (b : Bool) (o : Option ℕ) → has_header (image_of live) ≡ b → over_limit live ≡ o → (Ok x, t) ≡ outcome live b o → Readable live x t
read_ok live x t false o e f k = absurd (not-both x NoHeader t bare k)
read_ok live x t true (Some offset) e f k = absurd (not-both x (OverLimit offset) t bare k)
read_ok live x t true None e f k =
    let q = same_ok x (record { records = 0 + length (scanned live).records; length = (scanned live).past; tail = (scanned live).tail }) t (scanned live).table k in
    record {
      headed = e;
      within = f;
      records = ap (λ (y : Filled). y.records) q.0 ∙ omega arith;
      past = ap (λ (y : Filled). y.length) q.0;
      tail = ap (λ (y : Filled). y.tail) q.0;
      table = q.1;
    }

-- a filling that was granted
pub readable : (live : List ℕ) (x : Filled) (t : Table) → (Ok x, t) ≡ filled live → Readable live x t
readable live x t e = read_ok live x t (has_header (image_of live)) (over_limit live) refl refl e

refused_by : (capacity : ℕ) (live : List ℕ) (f : Refusal) (t : Table) (b : Bool) (o : Option ℕ) → (Err f, t) ≡ outcome live b o → later capacity live b o (full capacity live) ≡ Some f
refused_by capacity live f t false o k = ap (λ (x : Refusal). Some x) (sym (same_err f NoHeader t bare k))
refused_by capacity live f t true (Some offset) k = ap (λ (x : Refusal). Some x) (sym (same_err f (OverLimit offset) t bare k))
refused_by capacity live f t true None k =
    absurd (not-both (record { records = 0 + length (scanned live).records; length = (scanned live).past; tail = (scanned live).tail }) f (scanned live).table t (sym k))

-- a filling that was refused is the refusal of the open
pub unreadable : (capacity : ℕ) (live : List ℕ) (buffer : ℕ) (f : Refusal) (t : Table) → length live ≤ buffer → (Err f, t) ≡ filled live → open_fault capacity live buffer ≡ Some f
unreadable capacity live buffer f t h e = past-short capacity live buffer h ∙ refused_by capacity live f t (has_header (image_of live)) (over_limit live) e
