-- Written records, whole and cut. Assumes nothing.
use Rattle.std.proofs.Common.{◌≡◌, ℕ, zero, suc, ◌+◌, ◌-◌, ◌<◌, ◌≤◌, Bool, true, false, cond, ◌⊎◌, List, [], ◌∷◌, ◌++◌, length, take, drop, Some, None, Option, sym, refl, ap, ◌∙◌, subst, inl, inr, arith}
use lib.Seq.{take-nil, take-append-add}
use Rattle.std.proofs.lemmas.List.{length-append, append_assoc, take-append-le}
use Rattle.std.proofs.lemmas.Bool.{cases_lt, cond-false}
use Rattle.terms.specs.declared.At.{At}
use Rattle.image.specs.Bytes.{Record, record_bytes, records_bytes, next_id}
use Rattle.image.specs.Reading.{good, read_front, next_offset}
use Rattle.image.specs.Tables.{Table, learn, learn_all}
use Rattle.image.specs.Scans.{is_over, first_over}
use Rattle.image.specs.Laws.{Writable, AllWritable, Torn}
use Rattle.image.proofs.Back.{reads-back, next-behind, part-torn}
use Rattle.image.proofs.Fills.{next_id_lem}
use Rattle.image.proofs.WholeImage.{within_limits, drop-on}
use Rattle.notes.proofs.Reach.{Reach, here, step}

-- records with their offsets, `id` being the next id at the first, which is at `at`
abbrev pub placed : ℕ → ℕ → List Record → List (At Record)
placed id at [] = []
placed id at (r ∷ rs) = record { offset = at; value = r } ∷ placed (next_id id r) (at + length (record_bytes id r)) rs

pub take_past : (k : ℕ) (xs ys : List ℕ) → length xs ≤ k → take k (xs ++ ys) ≡ xs ++ take (k - length xs) ys
take_past k xs ys h =
    let e : k ≡ length xs + (k - length xs) = omega arith in
    ap (λ (n : ℕ). take n (xs ++ ys)) e ∙ take-append-add xs ys (k - length xs)

-- Limits -----------------------------------------------------------------------------------------------------------------

pub limits_written : (t : Table) (id at : ℕ) (rs : List Record) → id ≡ length t.names → AllWritable t rs → first_over id (placed id at rs) ≡ None
limits_written t id at [] i w = refl
limits_written t id at (r ∷ rs) i w =
    cond-false (is_over id r) (Some at) _ (ap (λ (j : ℕ). is_over j r) i ∙ within_limits t.names r w.0) ∙
    limits_written (learn t r) (next_id id r) (at + length (record_bytes id r)) rs (ap (λ (j : ℕ). next_id j r) i ∙ next_id_lem t r) w.1

within_first : (b : Bool) (at : ℕ) (x : Option ℕ) → cond b (Some at) x ≡ None → (b ≡ false) × (x ≡ None)
within_first true at x e = absurd (let z : ◌≡◌ {A = ℕ} 0 1 = cc in omega arith)
within_first false at x e = (refl, e)

-- what follows records within the limits decides
pub limits_on : {image : List ℕ} {t u : Table} {at past : ℕ} {rs : List (At Record)} (ss : List (At Record)) → Reach image t at rs u past → first_over (length t.names) rs ≡ None →
    first_over (length t.names) (rs ++ ss) ≡ first_over (length u.names) ss
limits_on ss here h = refl
limits_on {t = t} {at = at} ss (step {r = r} {rs = rs} e w) h =
    let n : next_id (length t.names) r ≡ length (learn t r).names = next_id_lem t r in
    let p = within_first (is_over (length t.names) r) at (first_over (next_id (length t.names) r) rs) h in
    cond-false (is_over (length t.names) r) (Some at) _ p.0 ∙
    ap (λ (id : ℕ). first_over id (rs ++ ss)) n ∙ limits_on ss w (ap (λ (id : ℕ). first_over id rs) (sym n) ∙ p.1)

-- Whole records ----------------------------------------------------------------------------------------------------------

-- the first of some written records is read, and the next ones stand behind it
record First (image : List ℕ) (t : Table) (id at : ℕ) (r : Record) (more : List ℕ) : Type 0 where
  reads : read_front t.names (drop at image) ≡ good r
  next : next_offset image at (good r) ≡ at + length (record_bytes id r)
  rest : drop (at + length (record_bytes id r)) image ≡ more
  ids : next_id id r ≡ length (learn t r).names

first : (image : List ℕ) (t : Table) (id at : ℕ) (r : Record) (more : List ℕ) → id ≡ length t.names → Writable t.names r → drop at image ≡ record_bytes id r ++ more → First image t id at r more
first image t id at r more i w e =
    let g : drop at image ≡ record_bytes (length t.names) r ++ more = e ∙ ap (λ (j : ℕ). record_bytes j r ++ more) i in
    record {
      reads = ap (read_front t.names) g ∙ reads-back t.names r more w;
      next = next-behind t.names image at r more w g ∙ ap (λ (j : ℕ). at + length (record_bytes j r)) (sym i);
      rest = drop-on image at (record_bytes id r) more e;
      ids = ap (λ (j : ℕ). next_id j r) i ∙ next_id_lem t r;
    }

pub reach-written : (image : List ℕ) (t : Table) (id at past : ℕ) (rs : List Record) (rest : List ℕ) → id ≡ length t.names → AllWritable t rs →
    drop at image ≡ records_bytes id rs ++ rest → past ≡ at + length (records_bytes id rs) → Reach image t at (placed id at rs) (learn_all t rs) past
reach-written image t id at past [] rest i w e p =
    let q : at ≡ past = omega arith in subst (λ (x : ℕ). Reach image t at [] t x) q here
reach-written image t id at past (r ∷ rs) rest i w e p =
    let more : List ℕ = records_bytes (next_id id r) rs in
    let f = first image t id at r (more ++ rest) i w.0 (e ∙ append_assoc (record_bytes id r) more rest) in
    let at' : ℕ = at + length (record_bytes id r) in
    let on = reach-written image (learn t r) (next_id id r) at' past rs rest f.ids w.1 f.rest (omega (arith, p, length-append (record_bytes id r) more)) in
    step f.reads (subst (λ (x : ℕ). Reach image (learn t r) x (placed (next_id id r) at' rs) (learn_all t (r ∷ rs)) past) (sym f.next) on)

-- Cut records ------------------------------------------------------------------------------------------------------------

-- nothing more, or the first part of a record
abbrev pub Stops : List ℕ → Table → ℕ → Type 0
Stops image t at = (drop at image ≡ []) ⊎ Torn (read_front t.names (drop at image))

-- What is left of records that are cut behind their k-th byte: the first ones whole, fewer than all where a byte is missing, and behind them nothing or a
-- record that is bad by the first or the second cause.
pub record CutAt (image : List ℕ) (t : Table) (id at : ℕ) (rs : List Record) (k : ℕ) : Type 0 where
  pub count : ℕ
  pub past : ℕ
  pub reach : Reach image t at (placed id at (take count rs)) (learn_all t (take count rs)) past
  pub stops : Stops image (learn_all t (take count rs)) past
  pub fewer : k < length (records_bytes id rs) → count < length rs

cut-first : (image : List ℕ) (t : Table) (id at : ℕ) (r : Record) (k : ℕ) → id ≡ length t.names → Writable t.names r → k < length (record_bytes id r) → drop at image ≡ take k (record_bytes id r) →
    Stops image t at
cut-first image t id at r zero i w h e = inl e
cut-first image t id at r (suc k) i w h e =
    let B : ℕ → List ℕ = λ j. record_bytes j r in
    inr (subst (λ (ys : List ℕ). Torn (read_front t.names ys)) (sym (e ∙ ap (λ (j : ℕ). take (suc k) (B j)) i))
    (part-torn t.names r (suc k) w (omega arith) (omega (arith, h, ap (λ (j : ℕ). length (B j)) i))))

pub reach-cut : (image : List ℕ) (t : Table) (id at : ℕ) (rs : List Record) (k : ℕ) → id ≡ length t.names → AllWritable t rs → drop at image ≡ take k (records_bytes id rs) → CutAt image t id at rs k
reach-cut image t id at [] k i w e = record {
  count = 0;
  past = at;
  reach = here;
  stops = inl (e ∙ take-nil k);
  fewer = λ h. absurd (omega (arith, h));
}
reach-cut image t id at (r ∷ rs) k i w e =
    let id' : ℕ = next_id id r in
    let at' : ℕ = at + length (record_bytes id r) in
    elim (cases_lt k (length (record_bytes id r))) [
      | inl h ↦ record {
        count = 0;
        past = at;
        reach = here;
        stops = cut-first image t id at r k i w.0 h (e ∙ take-append-le k (record_bytes id r) (records_bytes id' rs) (omega arith));
        fewer = λ _. omega arith;
      }
      | inr h ↦
          let more : List ℕ = take (k - length (record_bytes id r)) (records_bytes id' rs) in
          let f = first image t id at r more i w.0 (e ∙ take_past k (record_bytes id r) (records_bytes id' rs) h) in
          let c : CutAt image (learn t r) id' at' rs (k - length (record_bytes id r)) =
          reach-cut image (learn t r) id' at' rs (k - length (record_bytes id r)) f.ids w.1 f.rest in
          record {
            count = suc c.count;
            past = c.past;
            reach = step f.reads (subst (λ (x : ℕ). Reach image (learn t r) x (placed id' at' (take c.count rs)) (learn_all (learn t r) (take c.count rs)) c.past) (sym f.next) c.reach);
            stops = c.stops;
            fewer = λ l. let m = c.fewer (omega (arith, l, length-append (record_bytes id r) (records_bytes id' rs))) in omega arith;
          }
    ]
