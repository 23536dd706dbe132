-- Whole images: what notes leave of them, and mending. Assumes nothing.
use Rattle.std.proofs.Common.{◌≡◌, ℕ, ◌-◌, ◌≤◌, true, false, List, [], ◌∷◌, ◌++◌, length, take, drop, None, Ok, Err, Option, Result, sym, refl, ap, ◌∙◌, subst, le_refl, arith}
use Rattle.std.specs.Str.{bytes_eq}
use Rattle.std.proofs.lemmas.List.{length-append, length-take, length-take-le, take-append-drop, take-append-le, take-take, drop_at, drop_all, append_assoc, append-nil}
use Rattle.std.proofs.lemmas.Bool.{false≢true, cond-true}
use Rattle.terms.specs.declared.At.{At}
use Rattle.terms.specs.declared.Refusal.{Refusal}
use Rattle.terms.specs.declared.Refusal.TheVariants.{NoHeader}
use Rattle.image.specs.declared.filled.Filled.{Filled}
use Rattle.image.specs.Bytes.{Record, header}
use Rattle.image.specs.Reading.{Reading, end, read_front}
use Rattle.image.specs.Tables.{Table, bare}
use Rattle.image.specs.Kept.{Kept}
use Rattle.image.specs.Scans.{Scan, stopped, scan, image_of, has_header, scanned, known, first_over, over_limit, fill_from, fill_by}
use Rattle.image.specs.Shown.{is_good}
use Rattle.notes.specs.Notes.{note_records, note_bytes, note_table, notes_bytes, notes_table}
use Rattle.notes.specs.Wholeness.{Whole, Tells, AllFit}
use Rattle.notes.specs.Laws.{Accepted, NoteReadsBack, NotesReadBack, MendingKeeps, NotingKeeps}
use Rattle.notes.proofs.Places.{same-is}
use Rattle.notes.proofs.Reach.{Reach, reach-within, reach-stays, reach-part, reach-on, reach-scan, tail_of, turns_are, scan-reach}
use Rattle.notes.proofs.Written.{placed, limits_written, limits_on, reach-written}
use Rattle.notes.proofs.Noting.{note_writable, note_kept}

pub header-long : (image : List ℕ) → has_header image ≡ true → 16 ≤ length image
header-long image h = omega (arith, ap length (same-is header (take 16 image) h), length-take 16 image)

pub header-stays : (image more : List ℕ) → has_header image ≡ true → has_header (image ++ more) ≡ true
header-stays image more h = ap (bytes_eq header) (take-append-le 16 image more (header-long image h)) ∙ h

-- an image with the header is not empty
pub image_is : (image : List ℕ) → has_header image ≡ true → image_of image ≡ image
image_is [] h = absurd (false≢true h)
image_is (b ∷ bs) h = refl

scanned-is : (image : List ℕ) → has_header image ≡ true → scanned image ≡ scan (length image) image bare 16
scanned-is [] h = absurd (false≢true h)
scanned-is (b ∷ bs) h = cond-true (has_header (b ∷ bs)) (scan (length (b ∷ bs)) (b ∷ bs) bare 16) (stopped bare 0 None) h

-- what a scan says is there
pub scanned-reach : (image : List ℕ) → has_header image ≡ true → Reach image bare 16 (scanned image).records (known image) (scanned image).past
scanned-reach image h =
    subst (λ (s : Scan). Reach image bare 16 s.records s.table s.past) (sym (scanned-is image h)) (reach-scan (length image) image bare 16)

-- what is there, up to where something stops it, is what a scan says
pub reach-scanned : (image : List ℕ) (rs : List (At Record)) (u : Table) (past : ℕ) (x : Reading) → has_header image ≡ true → Reach image bare 16 rs u past → read_front u.names (drop past image) ≡ x →
    is_good x ≡ false → scanned image ≡ record { records = rs; table = u; past = past; tail = tail_of past x }
reach-scanned image rs u past x h w e g =
    let l = reach-within w (header-long image h) in
    let f : ℕ = length image - length rs - 1 in
    scanned-is image h ∙ ap (λ (n : ℕ). scan n image bare 16) (omega (arith, l.0, l.1, turns_are rs f)) ∙ scan-reach f x w e g

-- where records within the limits lead to the end, the image is whole
reach-tells : (image : List ℕ) (rs : List (At Record)) (u : Table) → has_header image ≡ true → Reach image bare 16 rs u (length image) → first_over 0 rs ≡ None → Kept u → Tells image u
reach-tells image rs u h w o k =
    let s = reach-scanned image rs u (length image) end h w (ap (read_front u.names) (drop_all (length image) image (le_refl (length image)))) refl in
    record {
      whole = record {
        headed = h;
        within = ap (λ (x : Scan). first_over 0 x.records) s ∙ o;
        reaches = ap (λ (x : Scan). x.past) s;
        clean = ap (λ (x : Scan). x.tail) s;
        kept = subst Kept (sym (ap (λ (x : Scan). x.table) s)) k;
      };
      table = ap (λ (x : Scan). x.table) s;
    }

-- a whole image's records lead from the header to its end
pub whole-reach : (image : List ℕ) → Whole image → Reach image bare 16 (scanned image).records (known image) (length image)
whole-reach image w =
    subst (λ (p : ℕ). Reach image bare 16 (scanned image).records (known image) p) w.reaches (scanned-reach image w.headed)

-- Notes ------------------------------------------------------------------------------------------------------------------

pub note_reads-back : NoteReadsBack
note_reads-back image n w f =
    let t : Table = known image in
    let more : List ℕ = note_bytes t n in
    let all : List ℕ = image ++ more in
    let id : ℕ = length t.names in
    let old : List (At Record) = (scanned image).records in
    let new : List (At Record) = placed id (length image) (note_records t n) in
    let s = note_writable t n f in
    let r : Reach image bare 16 old t (length image) = whole-reach image w in
    let p : Reach all t (length image) new (note_table t n) (length all) =
    reach-written all t id (length image) (length all) (note_records t n) [] refl s (drop_at image more (length image) refl ∙ sym (append-nil more)) (length-append image more) in
    reach-tells all (old ++ new) (note_table t n) (header-stays image more w.headed) (reach-on (reach-stays image more r (header-long image w.headed)) p)
    (limits_on new r w.within ∙ limits_written t id (length image) (note_records t n) refl s) (note_kept t n w.kept f)

pub notes_read_back : NotesReadBack
notes_read_back image [] w a =
    let e : image ++ [] ≡ image = append-nil image in record { whole = subst Whole (sym e) w; table = ap known e }
notes_read_back image (n ∷ ns) w a =
    let t : Table = known image in
    let b = note_reads-back image n w a.0 in
    let all : List ℕ = image ++ note_bytes t n in
    let e : known all ≡ note_table t n = b.table in
    let r : Tells (all ++ notes_bytes (note_table t n) ns) (notes_table (note_table t n) ns) =
    subst (λ (u : Table). Tells (all ++ notes_bytes u ns) (notes_table u ns)) e (notes_read_back all ns b.whole (subst (λ (u : Table). AllFit u ns) (sym e) a.1)) in
    subst (λ (xs : List ℕ). Tells xs (notes_table (note_table t n) ns)) (append_assoc image (note_bytes t n) (notes_bytes (note_table t n) ns)) r

pub noting_keeps : NotingKeeps
noting_keeps t [] k a = k
noting_keeps t (n ∷ ns) k a = noting_keeps (note_table t n) ns (note_kept t n k a.0) a.1

-- Mending ----------------------------------------------------------------------------------------------------------------

mend_headed : (image : List ℕ) → has_header image ≡ true → over_limit image ≡ None → Kept (known image) → Tells (take (scanned image).past image) (known image)
mend_headed image h o k =
    let past : ℕ = (scanned image).past in
    let rs : List (At Record) = (scanned image).records in
    let u : Table = known image in
    let r = scanned-reach image h in
    let b = reach-within r (header-long image h) in
    let xs : List ℕ = take past image in
    let l : length xs ≡ past = length-take-le past image b.1 in
    let w : Reach xs bare 16 rs u past =
    reach-part xs (drop past image) (subst (λ (ys : List ℕ). Reach ys bare 16 rs u past) (sym (take-append-drop past image)) r) (omega (arith, l)) in
    reach-tells xs rs u (ap (bytes_eq header) (take-take 16 past image (omega (arith, b.0))) ∙ h) (subst (Reach xs bare 16 rs u) (sym l) w) o k

pub mending_keeps : MendingKeeps
mending_keeps [] h o k = mend_headed header refl refl k
mending_keeps (b ∷ bs) h o k = mend_headed (b ∷ bs) h o k

pub accepted : Accepted
accepted live h o =
    let s : Scan = scanned live in
    let F : ℕ → Result Filled Refusal × Table = λ n. (Ok (record { records = n; length = s.past; tail = s.tail }), s.table) in
    cond-true (has_header (image_of live)) (fill_by 0 0 s) (Err NoHeader, bare) h ∙ ap (λ (x : Option ℕ). fill_from 0 x s) o ∙ ap F (omega arith)
