-- Notes that were cut anywhere have the entries of a first part of them. Assumes nothing.
use Rattle.std.proofs.Common.{◌≡◌, ℕ, zero, suc, ◌+◌, ◌-◌, ◌<◌, ◌≤◌, false, ◌⊎◌, List, [], ◌∷◌, ◌++◌, length, take, drop, Some, None, sym, refl, ap, ◌∙◌, subst, inl, inr, arith}
use lib.Seq.{take-nil}
use Rattle.std.proofs.lemmas.List.{length-append, length-drop, drop_at, drop_all, take-append-le, take-append-drop}
use Rattle.std.proofs.lemmas.Bool.{cases_lt}
use Rattle.terms.specs.declared.At.{At}
use Rattle.image.specs.declared.cause.Cause.{Cause}
use Rattle.image.specs.declared.cause.Cause.TheVariants.{NoWord, TooLong}
use Rattle.image.specs.Bytes.{Record}
use Rattle.image.specs.Reading.{Reading, end, bad, read_front}
use Rattle.image.specs.Tables.{Table, bare, learn_all}
use Rattle.image.specs.Kept.{Kept}
use Rattle.image.specs.Laws.{AllWritable}
use Rattle.image.specs.Scans.{Scan, scanned, known, first_over, has_header}
use Rattle.image.specs.Shown.{is_good}
use Rattle.image.proofs.WholeImage.{drop-on}
use Rattle.notes.specs.Notes.{Note, entry_of, note_records, note_bytes, note_table, notes_bytes, notes_table}
use Rattle.notes.specs.Wholeness.{AllFit}
use Rattle.notes.specs.Laws.{Ends, CutAnywhere}
use Rattle.notes.proofs.Reach.{Reach, here, reach-within, reach-stays, reach-on, tail_of}
use Rattle.notes.proofs.Written.{placed, take_past, limits_written, limits_on, reach-written, Stops, CutAt, reach-cut}
use Rattle.notes.proofs.Keeping.{front_writable, learn_all-kept}
use Rattle.notes.proofs.Noting.{note_writable, note_kept, part_same}
use Rattle.notes.proofs.LatestNoted.{agree_goes_on}
use Rattle.notes.proofs.Wholes.{header-long, header-stays, image_is, whole-reach, reach-scanned, mending_keeps}

-- What a cut leaves of notes ---------------------------------------------------------------------------------------------

record Left (image : List ℕ) (t : Table) (at : ℕ) (ns : List Note) (k : ℕ) : Type 0 where
  count : ℕ
  part : count ≤ length ns
  safe : (m : ℕ) → m ≤ length ns → length (notes_bytes t (take m ns)) ≤ k → m ≤ count
  table : Table
  records : List (At Record)
  past : ℕ
  reach : Reach image t at records table past
  stops : Stops image table past
  same : (output : List ℕ) → entry_of table output ≡ entry_of (notes_table t (take count ns)) output
  within : first_over (length t.names) records ≡ None
  kept : Kept table

too_far : (t : Table) (n : Note) (ns : List Note) (k m : ℕ) → k < length (note_bytes t n) → length (notes_bytes t (take m (n ∷ ns))) ≤ k → m ≤ 0
too_far t n ns k zero h b = omega arith
too_far t n ns k (suc m) h b = absurd (omega (arith, b, length-append (note_bytes t n) (notes_bytes (note_table t n) (take m ns))))

go_on : (t : Table) (n : Note) (ns : List Note) (k c : ℕ) → length (note_bytes t n) ≤ k →
    ((m : ℕ) → m ≤ length ns → length (notes_bytes (note_table t n) (take m ns)) ≤ k - length (note_bytes t n) → m ≤ c) →
    (m : ℕ) → m ≤ length (n ∷ ns) → length (notes_bytes t (take m (n ∷ ns))) ≤ k → m ≤ suc c
go_on t n ns k c h f zero l b = omega arith
go_on t n ns k c h f (suc m) l b =
    let q = f m (omega arith) (omega (arith, b, length-append (note_bytes t n) (notes_bytes (note_table t n) (take m ns)))) in omega arith

cut_notes : (image : List ℕ) (t : Table) (at : ℕ) (ns : List Note) (k : ℕ) → Kept t → AllFit t ns → drop at image ≡ take k (notes_bytes t ns) → Left image t at ns k
cut_notes image t at [] k kept a e = record {
  count = 0;
  part = omega arith;
  safe = λ m h l. h;
  table = t;
  records = [];
  past = at;
  reach = here;
  stops = inl (e ∙ take-nil k);
  same = λ output. refl;
  within = refl;
  kept = kept;
}
cut_notes image t at (n ∷ ns) k kept a e =
    let rs : List Record = note_records t n in
    let id : ℕ = length t.names in
    let w = note_writable t n a.0 in
    elim (cases_lt k (length (note_bytes t n))) [
      | inl l ↦
          let c : CutAt image t id at rs k =
          reach-cut image t id at rs k refl w (e ∙ take-append-le k (note_bytes t n) (notes_bytes (note_table t n) ns) (omega arith)) in
          let v : AllWritable t (take c.count rs) =
          front_writable t (take c.count rs) (drop c.count rs) (subst (AllWritable t) (sym (take-append-drop c.count rs)) w) in
          record {
            count = 0;
            part = omega arith;
            safe = λ m _. too_far t n ns k m l;
            table = learn_all t (take c.count rs);
            records = placed id at (take c.count rs);
            past = c.past;
            reach = c.reach;
            stops = c.stops;
            same = part_same t n kept a.0 c.count (c.fewer l);
            within = limits_written t id at (take c.count rs) refl v;
            kept = learn_all-kept t (take c.count rs) kept v;
          }
      | inr l ↦
          let at' : ℕ = at + length (note_bytes t n) in
          let more : List ℕ = take (k - length (note_bytes t n)) (notes_bytes (note_table t n) ns) in
          let g : drop at image ≡ note_bytes t n ++ more = e ∙ take_past k (note_bytes t n) (notes_bytes (note_table t n) ns) l in
          let c : Left image (note_table t n) at' ns (k - length (note_bytes t n)) =
          cut_notes image (note_table t n) at' ns (k - length (note_bytes t n)) (note_kept t n kept a.0) a.1 (drop-on image at (note_bytes t n) more g) in
          let r : Reach image t at (placed id at rs) (note_table t n) at' = reach-written image t id at at' rs more refl w g refl in
          record {
            count = suc c.count;
            part = let q = c.part in omega arith;
            safe = go_on t n ns k c.count l c.safe;
            table = c.table;
            records = placed id at rs ++ c.records;
            past = c.past;
            reach = reach-on r c.reach;
            stops = c.stops;
            same = c.same;
            within = limits_on c.records r (limits_written t id at rs refl w) ∙ c.within;
            kept = c.kept;
          }
    ]

-- What stops a scan ------------------------------------------------------------------------------------------------------

-- where a record is bad, there are bytes
bad-inside : (image : List ℕ) (names : List (List ℕ)) (at : ℕ) (c : Cause) → read_front names (drop at image) ≡ bad c → at < length image
bad-inside image names at c e =
    elim (cases_lt at (length image)) [
      | inl h ↦ h
      | inr h ↦
          let q : end ≡ bad c = sym (ap (read_front names) (drop_all at image h)) ∙ e in
          absurd (let z : ◌≡◌ {A = ℕ} 0 1 = cc in omega arith)
    ]

record Stopped (image : List ℕ) (t : Table) (at : ℕ) : Type 0 where
  reading : Reading
  is : read_front t.names (drop at image) ≡ reading
  is_bad : is_good reading ≡ false
  ends : ((at ≡ length image) × (tail_of at reading ≡ None)) ⊎
      ((at < length image) × (c : Cause) × ((c ≡ NoWord) ⊎ (c ≡ TooLong)) × (tail_of at reading ≡ Some (record { offset = at; value = c })))

stopped_by : (image : List ℕ) (t : Table) (at : ℕ) → at ≤ length image → Stops image t at → Stopped image t at
stopped_by image t at h (inl e) = record {
  reading = end;
  is = ap (read_front t.names) e;
  is_bad = refl;
  ends = inl (omega (arith, ap length e, length-drop at image), refl);
}
stopped_by image t at h (inr (inl e)) = record {
  reading = bad NoWord;
  is = e;
  is_bad = refl;
  ends = inr (bad-inside image t.names at NoWord e, NoWord, inl refl, refl);
}
stopped_by image t at h (inr (inr e)) = record {
  reading = bad TooLong;
  is = e;
  is_bad = refl;
  ends = inr (bad-inside image t.names at TooLong e, TooLong, inr refl, refl);
}

front_fits : (t : Table) (j : ℕ) (ns : List Note) → AllFit t ns → AllFit t (take j ns)
front_fits t zero ns a = tt
front_fits t (suc j) [] a = tt
front_fits t (suc j) (n ∷ ns) a = (a.0, front_fits (note_table t n) j ns a.1)

pub cut_anywhere : CutAnywhere
cut_anywhere image ns k w a =
    let t : Table = known image in
    let more : List ℕ = take k (notes_bytes t ns) in
    let all : List ℕ = image ++ more in
    let old : List (At Record) = (scanned image).records in
    let r : Reach image bare 16 old t (length image) = whole-reach image w in
    let c : Left all t (length image) ns k = cut_notes all t (length image) ns k w.kept a (drop_at image more (length image) refl) in
    let h = header-stays image more w.headed in
    let way : Reach all bare 16 (old ++ c.records) c.table c.past = reach-on (reach-stays image more r (header-long image w.headed)) c.reach in
    let st = stopped_by all c.table c.past (reach-within way (header-long all h)).1 c.stops in
    let s = reach-scanned all (old ++ c.records) c.table c.past st.reading h way st.is st.is_bad in
    let e : known all ≡ c.table = ap (λ (x : Scan). x.table) s in
    let part : List Note = take c.count ns in
    let same : (output : List ℕ) → entry_of (known all) output ≡ entry_of (notes_table t part) output = λ output. ap (λ (u : Table). entry_of u output) e ∙ c.same output in
    let o = ap (λ (x : Scan). first_over 0 x.records) s ∙ limits_on c.records r w.within ∙ c.within in
    record {
      count = c.count;
      part = c.part;
      safe = c.safe;
      same = same;
      agree = λ old g output. agree_goes_on t old part w.kept (front_fits t c.count ns a) g output ∙ sym (same output);
      headed = h;
      within = o;
      ends = subst (λ (x : Scan). Ends x (length all)) (sym s) st.ends;
      mended = mending_keeps all (ap has_header (image_is all h) ∙ h) o (subst Kept (sym e) c.kept);
    }
