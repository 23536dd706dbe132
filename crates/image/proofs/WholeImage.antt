-- An image of written records fills a table with what they tell. Assumes nothing.
use Rattle.std.proofs.Common.{◌≡◌, ℕ, suc, ◌+◌, ◌-◌, ◌≤◌, false, ltb, leb, List, [], ◌∷◌, ◌++◌, length, drop, None, Ok, Result, sym, refl, ap, ◌∙◌, arith}
use Rattle.std.proofs.lemmas.List.{length-append, drop_at, drop-drop}
use Rattle.std.proofs.lemmas.Bool.{or_from, le-ltb, lt-leb}
use Rattle.terms.specs.declared.Refusal.{Refusal}
use Rattle.image.specs.declared.filled.Filled.{Filled}
use Rattle.image.specs.Bytes.{Record, path, deps, header, record_bytes, records_bytes, next_id}
use Rattle.image.specs.Reading.{good, read_front, next_offset}
use Rattle.image.specs.Tables.{Table, bare, learn, learn_all}
use Rattle.image.specs.Scans.{scan, is_over, fill_by, filled}
use Rattle.image.specs.Laws.{Writable, AllWritable}
use Rattle.image.proofs.Naming.{name-parts}
use Rattle.image.proofs.Back.{reads-back, next-behind, record_least}
use Rattle.image.proofs.Fills.{next_id_lem, scan-end, fill_good, fill_stop}

-- a writable record is within the limits
pub within_limits : (known : List (List ℕ)) (r : Record) → Writable known r → is_over (length known) r ≡ false
within_limits known (path name) w = or_from (ltb 120 (length name)) (leb 256 (length known)) (le-ltb 120 (length name) (name-parts name w.0).short) (lt-leb 256 (length known) w.2)
within_limits known (deps output mtime inputs) w = le-ltb 64 (length inputs) w.2

pub drop-on : (image : List ℕ) (at : ℕ) (xs ys : List ℕ) → drop at image ≡ xs ++ ys → drop (at + length xs) image ≡ ys
drop-on image at xs ys e = sym (drop-drop (length xs) at image) ∙ ap (drop (length xs)) e ∙ drop_at xs ys (length xs) refl

-- each record takes a turn, so turns for as many as there are suffice, and one more for the end
abbrev turns : List Record → ℕ → ℕ
turns [] f = suc f
turns (r ∷ rs) f = suc (turns rs f)

turns_are : (rs : List Record) (f : ℕ) → turns rs f ≡ suc (length rs + f)
turns_are [] f = omega arith
turns_are (r ∷ rs) f = omega (arith, turns_are rs f)

abbrev Answer : Type 0
Answer = Result Filled Refusal × Table

abbrev answer : ℕ → ℕ → Table → Answer
answer n past t = (Ok (record { records = n; length = past; tail = None }), t)

-- from an offset on, where the rest of the image is these records
fills_on : (f n : ℕ) (image : List ℕ) (t : Table) (id at past : ℕ) (rs : List Record) → id ≡ length t.names → AllWritable t rs → drop at image ≡ records_bytes id rs →
    past ≡ at + length (records_bytes id rs) → fill_by n (length t.names) (scan (turns rs f) image t at) ≡ answer (n + length rs) past (learn_all t rs)
fills_on f n image t id at past [] i w e p =
    fill_stop n (length t.names) f image t at None (scan-end f image t at (ap (read_front t.names) e)) ∙
    ap (λ (k : ℕ). answer k at t) (omega arith) ∙ ap (λ (k : ℕ). answer (n + 0) k t) (omega (arith, p))
fills_on f n image t id at past (r ∷ rs) i w e p =
    let more : List ℕ = records_bytes (next_id id r) rs in
    let known : List (List ℕ) = t.names in
    let g : drop at image ≡ record_bytes (length known) r ++ more = e ∙ ap (λ (j : ℕ). record_bytes j r ++ more) i in
    let len : length (record_bytes id r) ≡ length (record_bytes (length known) r) = ap (λ (j : ℕ). length (record_bytes j r)) i in
    let next : next_offset image at (good r) ≡ at + length (record_bytes id r) = next-behind known image at r more w.0 g ∙ ap (λ (j : ℕ). at + j) (sym len) in
    fill_good n (turns rs f) image t at r (ap (read_front known) g ∙ reads-back known r more w.0) (within_limits known r w.0) ∙
    ap (λ (j : ℕ). fill_by (n + 1) (length (learn t r).names) (scan (turns rs f) image (learn t r) j)) next ∙
    fills_on f (n + 1) image (learn t r) (next_id id r) (at + length (record_bytes id r)) past rs (ap (λ (j : ℕ). next_id j r) i ∙ next_id_lem t r) w.1
    (drop-on image at (record_bytes id r) more e) (omega (arith, p, length-append (record_bytes id r) more)) ∙
    ap (λ (k : ℕ). answer k past (learn_all t (r ∷ rs))) (omega arith)

-- the bytes of a record are 12 or more
many_bytes : (t : Table) (id : ℕ) (rs : List Record) → id ≡ length t.names → AllWritable t rs → length rs ≤ length (records_bytes id rs)
many_bytes t id [] i w = omega arith
many_bytes t id (r ∷ rs) i w =
    let l = record_least t.names r w.0 in
    let len : length (record_bytes id r) ≡ length (record_bytes (length t.names) r) = ap (λ (j : ℕ). length (record_bytes j r)) i in
    omega (arith, l, len, many_bytes (learn t r) (next_id id r) rs (ap (λ (j : ℕ). next_id j r) i ∙ next_id_lem t r) w.1, length-append (record_bytes id r) (records_bytes (next_id id r) rs))

pub fills_written : (rs : List Record) → AllWritable bare rs → filled (header ++ records_bytes 0 rs) ≡ answer (length rs) (length (header ++ records_bytes 0 rs)) (learn_all bare rs)
fills_written rs w =
    let image : List ℕ = header ++ records_bytes 0 rs in
    let f : ℕ = length image - length rs - 1 in
    let e : length image ≡ turns rs f = omega (arith, turns_are rs f, many_bytes bare 0 rs refl w) in
    ap (λ (k : ℕ). fill_by 0 0 (scan k image bare 16)) e ∙ fills_on f 0 image bare 0 16 (length image) rs refl w refl (omega arith) ∙
    ap (λ (k : ℕ). answer k (length image) (learn_all bare rs)) (omega arith)
