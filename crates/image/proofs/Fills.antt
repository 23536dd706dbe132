-- Filling a table, record by record. Assumes nothing.
use Rattle.std.proofs.Common.{◌≡◌, ℕ, suc, ◌+◌, ◌-◌, ◌<◌, ◌≤◌, Bool, true, false, cond, not, ◌&&◌, eqb, leb, ltb, inl, inr, List, [], ◌∷◌, length, drop, Some, None, Ok, Err, Option, Result, sym, refl, ap, ◌∙◌, arith}
use Rattle.std.proofs.lemmas.List.{length_push}
use Rattle.std.proofs.lemmas.Bool.{cond-true, cond-false, not-true, not-false, true≢false, and_left, and_right, or_left, or_right, or_from, lt-ltb, le-ltb, lt-leb, le-leb, cases_lt}
use Rattle.terms.specs.declared.At.{At}
use Rattle.terms.specs.declared.Refusal.{Refusal}
use Rattle.terms.specs.declared.Refusal.TheVariants.{NoHeader, OverLimit}
use Rattle.terms.specs.Lists.{is_in}
use Rattle.terms.specs.Names.{holds_zero, is_name}
use Rattle.image.specs.declared.cause.Cause.{Cause}
use Rattle.image.specs.declared.filled.Filled.{Filled}
use Rattle.image.specs.declared.table.DepsTable.{DepsTable}
use Rattle.image.specs.Bytes.{Record, path, deps, next_id}
use Rattle.image.specs.Reading.{Reading, good, bad, end, read_front, next_offset, read_at}
use Rattle.image.specs.Tables.{Table, bare, learn}
use Rattle.image.specs.Learning.{view, path_learned}
use Rattle.image.specs.Scans.{Scan, found, stopped, scan, is_over, first_over, fill_from, fill_by, has_header, scanned, filled}
use Rattle.image.proofs.Naming.{is_name_lem}
use Rattle.image.proofs.Learned.{path-refused, path-full, path-taken}

-- One step of the scan -----------------------------------------------------------------------------------------------------

pub scan_good : (f : ℕ) (image : List ℕ) (t : Table) (at : ℕ) (r : Record) → read_front t.names (drop at image) ≡ good r →
    scan (suc f) image t at ≡ found at r (scan f image (learn t r) (next_offset image at (good r)))
scan_good f image t at r e = rw (e, scan)

pub scan-bad : (f : ℕ) (image : List ℕ) (t : Table) (at : ℕ) (c : Cause) → read_front t.names (drop at image) ≡ bad c →
    scan (suc f) image t at ≡ stopped t at (Some (record { offset = at; value = c }))
scan-bad f image t at c e = rw (e, scan)

pub scan-end : (f : ℕ) (image : List ℕ) (t : Table) (at : ℕ) → read_front t.names (drop at image) ≡ end → scan (suc f) image t at ≡ stopped t at None
scan-end f image t at e = rw (e, scan)

pub next_id_lem : (t : Table) (r : Record) → next_id (length t.names) r ≡ length (learn t r).names
next_id_lem t (path name) = sym (length_push t.names name)
next_id_lem t (deps output mtime inputs) = refl

-- What the rest gives ------------------------------------------------------------------------------------------------------

one_more : (n : ℕ) (o : Option ℕ) (at : ℕ) (r : Record) (s : Scan) → fill_from n o (found at r s) ≡ fill_from (n + 1) o s
one_more n (Some offset) at r s = refl
one_more n None at r s =
    let F : ℕ → Result Filled Refusal × Table = λ k. (Ok (record { records = k; length = s.past; tail = s.tail }), s.table) in
    ap F (omega arith)

pub fill_good : (n f : ℕ) (image : List ℕ) (t : Table) (at : ℕ) (r : Record) → read_front t.names (drop at image) ≡ good r → is_over (length t.names) r ≡ false →
    fill_by n (length t.names) (scan (suc f) image t at) ≡ fill_by (n + 1) (length (learn t r).names) (scan f image (learn t r) (next_offset image at (good r)))
fill_good n f image t at r e o =
    let s : Scan = scan f image (learn t r) (next_offset image at (good r)) in
    ap (fill_by n (length t.names)) (scan_good f image t at r e) ∙
    ap (λ (x : Option ℕ). fill_from n x (found at r s)) (cond-false (is_over (length t.names) r) (Some at) (first_over (next_id (length t.names) r) s.records) o) ∙
    one_more n (first_over (next_id (length t.names) r) s.records) at r s ∙
    ap (λ (id : ℕ). fill_by (n + 1) id s) (next_id_lem t r)

pub fill_over : (n f : ℕ) (image : List ℕ) (t : Table) (at : ℕ) (r : Record) → read_front t.names (drop at image) ≡ good r → is_over (length t.names) r ≡ true →
    fill_by n (length t.names) (scan (suc f) image t at) ≡ (Err (OverLimit at), bare)
fill_over n f image t at r e o =
    let s : Scan = scan f image (learn t r) (next_offset image at (good r)) in
    ap (fill_by n (length t.names)) (scan_good f image t at r e) ∙
    ap (λ (x : Option ℕ). fill_from n x (found at r s)) (cond-true (is_over (length t.names) r) (Some at) (first_over (next_id (length t.names) r) s.records) o)

pub fill_stop : (n id f : ℕ) (image : List ℕ) (t : Table) (at : ℕ) (tail : Option (At Cause)) → scan (suc f) image t at ≡ stopped t at tail →
    fill_by n id (scan (suc f) image t at) ≡ (Ok (record { records = n; length = at; tail = tail }), t)
fill_stop n id f image t at tail e =
    let F : ℕ → Result Filled Refusal × Table = λ k. (Ok (record { records = k; length = at; tail = tail }), t) in
    ap (fill_by n id) e ∙ ap F (omega arith)

-- The reader's loop --------------------------------------------------------------------------------------------------------

-- what the reader's answer says of the image
pub read_is : (known : List (List ℕ)) (image : List ℕ) (at : ℕ) (x y : Reading) (n : ℕ) → (x, n) ≡ read_at known image at → x ≡ y →
    (read_front known (drop at image) ≡ y) × (n ≡ next_offset image at y)
read_is known image at x y n e f =
    let a : read_front known (drop at image) ≡ y = sym (ap (λ (p : Reading × ℕ). p.0) e) ∙ f in
    (a, ap (λ (p : Reading × ℕ). p.1) e ∙ ap (next_offset image at) a)

-- a record was read at `at` into a table t, n records before it; `taken` says whether it was learned, and u is the table then
pub record Taken (t : Table) (r : Record) (taken : Bool) (u : Table) : Type 0 where
  pub limit : taken ≡ not (is_over (length t.names) r)
  pub after : u ≡ cond taken (learn t r) t

-- told by a call whose answer and table go on under other names
pub taken_by : (t : Table) (r : Record) (taken b : Bool) (u v : DepsTable) → taken ≡ b → u ≡ v → b ≡ not (is_over (length t.names) r) → view v ≡ cond b (learn t r) t → Taken t r taken (view u)
taken_by t r taken b u v e f l a = record { limit = e ∙ l; after = ap view f ∙ a ∙ ap (λ (x : Bool). cond x (learn t r) t) (sym e) }

-- a name that was read is learned where it is not over a limit
was_refused : (t : Table) (r : Record) (b : Bool) (u : Table) → ◌≡◌ {A = Bool × Table} (b, u) (false, t) → is_over (length t.names) r ≡ true → Taken t r b u
was_refused t r b u e o =
    let f : b ≡ false = ap (λ (p : Bool × Table). p.0) e in
    record { limit = f ∙ sym (ap not o); after = ap (λ (p : Bool × Table). p.1) e ∙ ap (λ (c : Bool). cond c (learn t r) t) (sym f) }

was_taken : (t : Table) (r : Record) (b : Bool) (u : Table) → ◌≡◌ {A = Bool × Table} (b, u) (true, learn t r) → is_over (length t.names) r ≡ false → Taken t r b u
was_taken t r b u e o =
    let f : b ≡ true = ap (λ (p : Bool × Table). p.0) e in
    record { limit = f ∙ sym (ap not o); after = ap (λ (p : Bool × Table). p.1) e ∙ ap (λ (c : Bool). cond c (learn t r) t) (sym f) }

pub path-taken-by : (t : Table) (name : List ℕ) (b : Bool) (u : Table) → (1 ≤ length name) × (holds_zero name ≡ false) × (is_in name t.names ≡ false) →
    (b, u) ≡ path_learned t name → Taken t (path name) b u
path-taken-by t name b u k e =
    let l : ℕ = length name in
    let n : ℕ = length t.names in
    elim (cases_lt 120 l) [
      | inl h ↦
          let i : is_name name ≡ false = and_left (leb 1 l && leb l 120) (not (holds_zero name)) (and_right (leb 1 l) (leb l 120) (lt-leb l 120 h)) in
          was_refused t (path name) b u
          (e ∙ sym (path-refused t name (and_left (is_name name && not (is_in name t.names)) (ltb n 256) (and_left (is_name name) (not (is_in name t.names)) i))))
          (or_left (ltb 120 l) (leb 256 n) (lt-ltb 120 l h))
      | inr h ↦
          elim (cases_lt n 256) [
            | inl m ↦
                was_taken t (path name) b u (e ∙ sym (path-taken t name (is_name_lem name k.0 h k.1) k.2 m))
                (or_from (ltb 120 l) (leb 256 n) (le-ltb 120 l h) (lt-leb 256 n m))
            | inr m ↦ was_refused t (path name) b u (e ∙ sym (path-full t name m)) (or_right (ltb 120 l) (leb 256 n) (le-leb 256 n m))
          ]
    ]

abbrev Answer : Type 0
Answer = Result Filled Refusal × Table

one_less : (n l : ℕ) → n < l → l - n ≡ suc (l - (n + 1))
one_less n l h = omega arith

pub step-on : (n : ℕ) (image : List ℕ) (t u : Table) (at next : ℕ) (r : Record) (taken : Bool) (answer : Answer) → (read_front t.names (drop at image) ≡ good r) × (next ≡ next_offset image at (good r)) →
    Taken t r taken u → taken ≡ true → n < length image → fill_by n (length t.names) (scan (length image - n) image t at) ≡ answer →
    fill_by (n + 1) (length u.names) (scan (length image - (n + 1)) image u next) ≡ answer
step-on n image t u at next r taken answer e k b h inv =
    let f : ℕ = length image - (n + 1) in
    let o : is_over (length t.names) r ≡ false = not-true (is_over (length t.names) r) (sym k.limit ∙ b) in
    let v : u ≡ learn t r = k.after ∙ cond-true taken (learn t r) t b in
    ap (λ (w : Table). fill_by (n + 1) (length w.names) (scan f image w next)) v ∙
    ap (λ (j : ℕ). fill_by (n + 1) (length (learn t r).names) (scan f image (learn t r) j)) e.1 ∙
    sym (fill_good n f image t at r e.0 o) ∙
    ap (λ (g : ℕ). fill_by n (length t.names) (scan g image t at)) (sym (one_less n (length image) h)) ∙ inv

pub step-over : (n : ℕ) (image : List ℕ) (t u : Table) (at next : ℕ) (r : Record) (taken : Bool) (answer : Answer) → (read_front t.names (drop at image) ≡ good r) × (next ≡ next_offset image at (good r)) →
    Taken t r taken u → taken ≡ false → n < length image → fill_by n (length t.names) (scan (length image - n) image t at) ≡ answer → (Err (OverLimit at), bare) ≡ answer
step-over n image t u at next r taken answer e k b h inv =
    let f : ℕ = length image - (n + 1) in
    let o : is_over (length t.names) r ≡ true = not-false (is_over (length t.names) r) (sym k.limit ∙ b) in
    sym (fill_over n f image t at r e.0 o) ∙ ap (λ (g : ℕ). fill_by n (length t.names) (scan g image t at)) (sym (one_less n (length image) h)) ∙ inv

pub step_stop : (n : ℕ) (image : List ℕ) (t : Table) (at : ℕ) (tail : Option (At Cause)) (answer : Answer) → ((f : ℕ) → scan (suc f) image t at ≡ stopped t at tail) →
    n < length image → fill_by n (length t.names) (scan (length image - n) image t at) ≡ answer → (Ok (record { records = n; length = at; tail = tail }), t) ≡ answer
step_stop n image t at tail answer e h inv =
    let f : ℕ = length image - (n + 1) in
    sym (fill_stop n (length t.names) f image t at tail (e f)) ∙ ap (λ (g : ℕ). fill_by n (length t.names) (scan g image t at)) (sym (one_less n (length image) h)) ∙ inv

-- The header ---------------------------------------------------------------------------------------------------------------

pub headless : (live : List ℕ) → eqb (length live) 0 ≡ false → has_header live ≡ false → (Err NoHeader, bare) ≡ filled live
headless [] n h = absurd (true≢false n)
headless (x ∷ xs) n h = let live : List ℕ = x ∷ xs in sym (cond-false (has_header live) (fill_by 0 0 (scanned live)) (Err NoHeader, bare) h)

pub headed : (live : List ℕ) → eqb (length live) 0 ≡ false → has_header live ≡ true → fill_by 0 0 (scan (length live) live bare 16) ≡ filled live
headed [] n h = absurd (true≢false n)
headed (x ∷ xs) n h =
    let live : List ℕ = x ∷ xs in
    sym (cond-true (has_header live) (fill_by 0 0 (scanned live)) (Err NoHeader, bare) h ∙ ap (fill_by 0 0) (cond-true (has_header live) (scan (length live) live bare 16) (stopped bare 0 None) h))
