-- How each call moves the notes that a log stands for. Assumes nothing.
use Rattle.std.proofs.Common.{◌≡◌, ℕ, ◌^◌, ◌<◌, Bool, true, cond, ◌⊎◌, List, [], ◌∷◌, ◌++◌, length, Some, None, Ok, Err, Option, Result, sym, refl, ap, ◌∙◌, subst, inl, inr, arith}
use Rattle.std.proofs.lemmas.List.{append-nil, append_assoc, take_all}
use Rattle.std.proofs.lemmas.Bool.{cases_Bool, true≢false}
use Rattle.terms.specs.declared.Place.{Place}
use Rattle.terms.specs.declared.Refusal.{Refusal}
use Rattle.terms.specs.declared.Refusal.TheVariants.{PowerOff, Full}
use Rattle.terms.specs.Lists.{◌▷◌}
use Rattle.medium.specs.declared.Fault.TheVariants.{Off}
use Rattle.medium.specs.State.{Bytes, State, settled, more}
use Rattle.medium.specs.Failure.{Fell}
use Rattle.medium.specs.Calls.{Synced}
use Rattle.image.specs.Tables.{Table}
use Rattle.image.specs.Kept.{Kept}
use Rattle.image.specs.Scans.{known}
use Rattle.notes.specs.Notes.{Note, unchanged, note_bytes, note_table, notes_bytes, notes_table}
use Rattle.notes.specs.Meant.{meant}
use Rattle.notes.specs.Compacting.{compact_bytes, compact_table}
use Rattle.notes.specs.Wholeness.{Whole, Fitting, AllFit, Agree, Tells}
use Rattle.notes.specs.Laws.{Compacts}
use Rattle.notes.proofs.Lengths.{note_adds}
use Rattle.notes.proofs.Wholes.{notes_read_back}
use Rattle.notes.proofs.LatestNoted.{agree_goes_on}
use Rattle.notes.proofs.Compacted.{compaction}
use Rattle.depslog.specs.Replacing.{Replaced}
use Rattle.depslog.specs.State.{LogState, open_on, closed_on, live_of}
use Rattle.depslog.specs.Appending.{AppendedAll}
use Rattle.depslog.specs.Checks.{refuse, sync_fault}
use Rattle.depslog.specs.Calls.{Doing, Ended, SyncedLog, FailedLog}
use Rattle.depslog.specs.NoteCall.{note_fault, no_room, NewlyNoted, NotedLog}
use Rattle.depslog.specs.Recompacting.{recompact_fault, RecompactedLog}
use Rattle.standing.specs.Standing.{OpenWith, ClosedWith, Shortened}
use Rattle.standing.proofs.Failing.{closed_on_lem, closed-whole, fell-noted, fell-settled}
use Rattle.standing.proofs.Checked.{judged, note_fits}

-- an open log all of whose live bytes are durable
pub open-settled : (notes : List Note) (live : List ℕ) (t : Table) (m : State) → m.power ≡ true → m.live ≡ settled live → Tells live t → Agree notes t → OpenWith notes [] (open_on t m)
open-settled notes live t m on e w a =
    let d : live ≡ m.live.durable = sym (ap (λ (b : Bytes). b.durable) e) in
    record {
      is_open = refl;
      on = on;
      whole = subst Whole d w.whole;
      agree = subst (λ (xs : List ℕ). Agree notes (known xs)) d (subst (Agree notes) (sym w.table) a);
      fit = tt;
      bytes = ap (λ (b : Bytes). b.pending) e;
      table = sym (ap known (sym d) ∙ w.table);
    }

-- What an open log stands for --------------------------------------------------------------------------------------------------

module _ (firm ns : List Note) (s : LogState) (o : OpenWith firm ns s) where
  abbrev D : List ℕ
  D = s.medium.live.durable

  live-is : live_of s.medium ≡ D ++ notes_bytes (known D) ns
  live-is = ap (λ (xs : List ℕ). D ++ xs) o.bytes

  -- its table is what its live bytes tell
  pub open-tells : Tells (live_of s.medium) s.table
  open-tells =
      let w = notes_read_back D ns o.whole o.fit in
      subst (λ (xs : List ℕ). Tells xs s.table) (sym live-is) (subst (Tells (D ++ notes_bytes (known D) ns)) (sym o.table) w)

  pub open_agrees : Agree (firm ++ ns) s.table
  open_agrees = subst (Agree (firm ++ ns)) (sym o.table) (agree_goes_on (known D) firm ns o.whole.kept o.fit o.agree)

  -- a failure shortens its notes
  pub open-fell : (n : State) → Fell s.medium.live s.medium n → Shortened firm ns (closed_on n)
  open-fell n f = fell-noted firm ns s.medium.live s.medium n o.whole o.agree o.fit o.bytes f

-- how a call ends: granted, or the power failed
pub ended : {A : Type 0} (does : Doing) (goal : Table) (x : A) (f : Refusal) (r : Result A Refusal) (t : LogState) → Ended does goal x f r t →
    ((r ≡ Ok x) × (m : State) × does (Ok tt) m × (t ≡ open_on goal m)) ⊎ ((r ≡ Err f) × (m : State) × does (Err Off) m × (t ≡ closed_on m))
ended does goal x f r t e = elim e [ inl g ↦ inl (g.answer, t.medium, g.done, g.after) | inr l ↦ inr (l.answer, t.medium, l.done, l.after) ]

-- Sync -------------------------------------------------------------------------------------------------------------------------

-- where the log is open, no check for that refuses
none-some : (o : Option Refusal) (f : Refusal) → o ≡ None → o ≡ Some f → ⊥
none-some o f a b = let z : ◌≡◌ {A = ℕ} 0 1 = cc in omega arith

-- all notes are firm
pub record Firm (firm ns : List Note) (r : Result (Unit {0}) Refusal) (t : LogState) : Type 0 where
  pub answer : r ≡ Ok tt
  pub stands : OpenWith (firm ++ ns) [] t

-- the power failed, and the notes are shortened
pub record Cut (firm ns : List Note) (r : Result (Unit {0}) Refusal) (t : LogState) : Type 0 where
  pub answer : r ≡ Err PowerOff
  pub stands : Shortened firm ns t

-- refused by a check, and nothing changed
pub record Same (s : LogState) (r : Result (Unit {0}) Refusal) (t : LogState) : Type 0 where
  pub refusal : Refusal
  pub answer : r ≡ Err refusal
  pub same : t ≡ s

pub synced_moves : (firm ns : List Note) (s t : LogState) (r : Result (Unit {0}) Refusal) → OpenWith firm ns s → SyncedLog s r t → Firm firm ns r t ⊎ Cut firm ns r t
synced_moves firm ns s t r o j =
    elim (judged (sync_fault s.is_open) s r t (Ended (Synced s.medium) s.table tt PowerOff r t) j) [
      | inl f ↦ absurd (none-some (sync_fault s.is_open) f.refusal (ap sync_fault o.is_open) f.is)
      | inr e ↦
          elim (ended (Synced s.medium) s.table tt PowerOff r t e.1) [
            | inl g ↦
                let n : State = g.1 in
                let after = g.2.after in
                inl (record {
                  answer = g.0;
                  stands = subst (OpenWith (firm ++ ns) []) (sym g.3)
                      (open-settled (firm ++ ns) (live_of s.medium) s.table n (ap (λ (m : State). m.power) after ∙ o.on) (ap (λ (m : State). m.live) after) (open-tells firm ns s o) (open_agrees firm ns s o));
                })
            | inr l ↦
                inr (record {
                  answer = l.0;
                  stands = elim l.2 [
                    | inl i ↦ absurd (true≢false (sym o.on ∙ i.off))
                    | inr b ↦ subst (Shortened firm ns) (sym l.3) (open-fell firm ns s o l.1 b.fell)
                  ];
                })
          ]
    ]

-- Note -------------------------------------------------------------------------------------------------------------------------

pub fits_push : (t : Table) (ns : List Note) (n : Note) → AllFit t ns → Fitting (notes_table t ns) n → AllFit t (ns ▷ n)
fits_push t [] n a f = (f, tt)
fits_push t (m ∷ ns) n a f = (a.0, fits_push (note_table t m) ns n a.1 f)

pub bytes_push : (t : Table) (ns : List Note) (n : Note) → notes_bytes t (ns ▷ n) ≡ notes_bytes t ns ++ note_bytes (notes_table t ns) n
bytes_push t [] n = append-nil (note_bytes t n)
bytes_push t (m ∷ ns) n =
    ap (λ (xs : List ℕ). note_bytes t m ++ xs) (bytes_push (note_table t m) ns n) ∙
    sym (append_assoc (note_bytes t m) (notes_bytes (note_table t m) ns) (note_bytes (notes_table (note_table t m) ns) n))

pub table_push : (t : Table) (ns : List Note) (n : Note) → notes_table t (ns ▷ n) ≡ note_table (notes_table t ns) n
table_push t [] n = refl
table_push t (m ∷ ns) n = table_push (note_table t m) ns n

-- the note joins at the end
pub record Joined (firm ns : List Note) (n : Note) (r : Result (Unit {0}) Refusal) (t : LogState) : Type 0 where
  pub answer : r ≡ Ok tt
  pub stands : OpenWith firm (ns ▷ n) t

module _ (firm ns : List Note) (s : LogState) (o : OpenWith firm ns s) (n : Note) (f : Fitting s.table n) where
  joined_fits : AllFit (known s.medium.live.durable) (ns ▷ n)
  joined_fits = fits_push (known s.medium.live.durable) ns n o.fit (subst (λ (t : Table). Fitting t n) o.table f)

  joined_bytes : s.medium.live.pending ++ note_bytes s.table n ≡ notes_bytes (known s.medium.live.durable) (ns ▷ n)
  joined_bytes =
      ap (λ (xs : List ℕ). xs ++ note_bytes s.table n) o.bytes ∙
      ap (λ (t : Table). notes_bytes (known s.medium.live.durable) ns ++ note_bytes t n) o.table ∙ sym (bytes_push (known s.medium.live.durable) ns n)

  joins : (u : LogState) → u.is_open ≡ true → u.medium.power ≡ true → u.medium.live ≡ more s.medium.live (note_bytes s.table n) → u.table ≡ note_table s.table n → OpenWith firm (ns ▷ n) u
  joins u is_open on live table =
      let d : s.medium.live.durable ≡ u.medium.live.durable = sym (ap (λ (b : Bytes). b.durable) live) in
      let P : List ℕ → Type 0 = λ xs. u.medium.live.pending ≡ notes_bytes (known xs) (ns ▷ n) in
      let Q : List ℕ → Type 0 = λ xs. u.table ≡ notes_table (known xs) (ns ▷ n) in
      record {
        is_open = is_open;
        on = on;
        whole = subst Whole d o.whole;
        agree = subst (λ (xs : List ℕ). Agree firm (known xs)) d o.agree;
        fit = subst (λ (xs : List ℕ). AllFit (known xs) (ns ▷ n)) d joined_fits;
        bytes = subst P d (ap (λ (b : Bytes). b.pending) live ∙ joined_bytes);
        table = subst Q d (table ∙ ap (λ (t : Table). note_table t n) o.table ∙ sym (table_push (known s.medium.live.durable) ns n));
      }

  -- where it says nothing new, nothing changes, and it stands all the same
  joins-same : unchanged s.table n ≡ true → OpenWith firm (ns ▷ n) s
  joins-same e =
      let w = (note_adds s.table n).nothing e in
      let B : List ℕ → Bytes = λ xs. record { durable = s.medium.live.durable; pending = xs } in
      joins s o.is_open o.on (ap B (sym (append-nil s.medium.live.pending)) ∙ ap (λ (xs : List ℕ). more s.medium.live xs) (sym w.0)) (sym w.1)

  joined_fell : (k : State) → Fell (more s.medium.live (note_bytes s.table n)) s.medium k → Shortened firm (ns ▷ n) (closed_on k)
  joined_fell k b = fell-noted firm (ns ▷ n) (more s.medium.live (note_bytes s.table n)) s.medium k o.whole o.agree joined_fits joined_bytes b

  newly_moves : (t : LogState) (r : Result (Unit {0}) Refusal) → NewlyNoted n s r t → Same s r t ⊎ (Joined firm ns n r t ⊎ Cut firm (ns ▷ n) r t)
  newly_moves t r j =
      let does : Doing = AppendedAll (note_bytes s.table n) s.medium in
      let fault : Option Refusal = refuse Full (no_room s.medium (note_bytes s.table n)) None in
      elim (judged fault s r t (Ended does (note_table s.table n) tt PowerOff r t) j) [
        | inl q ↦ inl (record { refusal = q.refusal; answer = q.answer; same = q.same })
        | inr e ↦
            inr (elim (ended does (note_table s.table n) tt PowerOff r t e.1) [
              | inl g ↦
                  let after = g.2.after in
                  inl (record {
                    answer = g.0;
                    stands = subst (OpenWith firm (ns ▷ n)) (sym g.3)
                        (joins (open_on (note_table s.table n) g.1) refl (ap (λ (m : State). m.power) after ∙ o.on) (ap (λ (m : State). m.live) after) refl);
                  })
              | inr l ↦
                  inr (record {
                    answer = l.0;
                    stands = elim l.2 [
                      | inl i ↦ absurd (true≢false (sym o.on ∙ i.off))
                      | inr b ↦ subst (Shortened firm (ns ▷ n)) (sym l.3) (joined_fell l.1 b.fell)
                    ];
                  })
            ])
      ]

pub noted_moves : (firm ns : List Note) (s t : LogState) (bytes : List ℕ) (output : Place) (mtime : ℕ) (inputs : List Place) (r : Result (Unit {0}) Refusal) → mtime < 2 ^ 64 → OpenWith firm ns s →
    NotedLog bytes output mtime inputs s r t →
    Same s r t ⊎ (Joined firm ns (meant bytes output mtime inputs) r t ⊎ Cut firm (ns ▷ meant bytes output mtime inputs) r t)
noted_moves firm ns s t bytes output mtime inputs r time o j =
    let n : Note = meant bytes output mtime inputs in
    let R : Bool → Type 0 = λ b. cond b ((r ≡ Ok tt) × (t ≡ s)) (NewlyNoted n s r t) in
    elim (judged (note_fault s.is_open s.table bytes output mtime inputs) s r t (R (unchanged s.table n)) j) [
      | inl q ↦ inl (record { refusal = q.refusal; answer = q.answer; same = q.same })
      | inr e ↦
          let f = note_fits s.table bytes output mtime inputs time (ap (λ (b : Bool). note_fault b s.table bytes output mtime inputs) (sym o.is_open) ∙ e.0) in
          elim (cases_Bool (unchanged s.table n)) [
            | inl u ↦
                let w : (r ≡ Ok tt) × (t ≡ s) = subst R u e.1 in
                inr (inl (record { answer = w.0; stands = subst (OpenWith firm (ns ▷ n)) (sym w.1) (joins-same firm ns s o n f u) }))
            | inr u ↦ newly_moves firm ns s o n f t r (subst R u e.1)
          ]
    ]

-- Recompact --------------------------------------------------------------------------------------------------------------------

-- all notes are left
all_left : (firm ns : List Note) (t : LogState) → ClosedWith (firm ++ ns) t → Shortened firm ns t
all_left firm ns t c =
    record { count = length ns; part = omega arith; stands = subst (λ (ms : List Note). ClosedWith (firm ++ ms) t) (sym (take_all (length ns) ns (omega arith))) c }

module _ (firm ns : List Note) (s : LogState) (o : OpenWith firm ns s) where
  table_kept : Kept s.table
  table_kept = let w = open-tells firm ns s o in subst Kept w.table w.whole.kept

  compacts : Compacts s.table
  compacts = compaction s.table table_kept

  compact_agrees : Agree (firm ++ ns) (compact_table s.table)
  compact_agrees output = open_agrees firm ns s o output ∙ sym (compacts.same output)

  -- a failure meets the old image or the new one
  pub replaced-fell : (k : State) → (Fell s.medium.live s.medium k) ⊎ (Fell (settled (compact_bytes s.table)) s.medium k) → Shortened firm ns (closed_on k)
  replaced-fell k (inl f) = open-fell firm ns s o k f
  replaced-fell k (inr f) =
      let w = compacts.tells in
      all_left firm ns (closed_on k) (closed-whole (firm ++ ns) (compact_bytes s.table) k (fell-settled (compact_bytes s.table) (settled (compact_bytes s.table)) s.medium k refl refl f) w.whole
      (subst (Agree (firm ++ ns)) (sym w.table) compact_agrees))

  pub recompacted_moves : (t : LogState) (r : Result (Unit {0}) Refusal) → RecompactedLog s r t → Same s r t ⊎ (Firm firm ns r t ⊎ Cut firm ns r t)
  recompacted_moves t r j =
      let does : Doing = Replaced (compact_bytes s.table) s.medium in
      elim (judged (recompact_fault s.is_open s.medium.capacity s.table) s r t (Ended does (compact_table s.table) tt PowerOff r t) j) [
        | inl q ↦ inl (record { refusal = q.refusal; answer = q.answer; same = q.same })
        | inr e ↦
            inr (elim (ended does (compact_table s.table) tt PowerOff r t e.1) [
              | inl g ↦
                  let after = g.2.after in
                  inl (record {
                    answer = g.0;
                    stands = subst (OpenWith (firm ++ ns) []) (sym g.3)
                        (open-settled (firm ++ ns) (compact_bytes s.table) (compact_table s.table) g.1 (ap (λ (m : State). m.power) after ∙ o.on) (ap (λ (m : State). m.live) after) compacts.tells compact_agrees);
                  })
              | inr l ↦
                  inr (record {
                    answer = l.0;
                    stands = elim l.2 [
                      | inl i ↦ absurd (true≢false (sym o.on ∙ i.off))
                      | inr b ↦ subst (Shortened firm ns) (sym l.3) (replaced-fell l.1 b.fell)
                    ];
                  })
            ])
      ]

-- Power failure ----------------------------------------------------------------------------------------------------------------

pub failed_moves : (firm ns : List Note) (s t : LogState) → OpenWith firm ns s → FailedLog s t → Shortened firm ns t
failed_moves firm ns s t o f = subst (Shortened firm ns) (sym f.after) (open-fell firm ns s o t.medium f.medium)

-- a closed log stands for the same notes on a medium with the same live bytes
pub closed_same : (notes : List Note) (s : LogState) (n : State) → ClosedWith notes s → n.live ≡ settled (live_of s.medium) → ClosedWith notes (closed_on n)
closed_same notes s n c e = closed_on_lem notes (live_of s.medium) n e c.headed c.within c.kept c.agree

-- what a failure leaves of settled live bytes
pub closed-fell : (notes : List Note) (s : LogState) (m n : State) → ClosedWith notes s → Fell s.medium.live m n → ClosedWith notes (closed_on n)
closed-fell notes s m n c f =
    closed_same notes s n c (fell-settled (live_of s.medium) s.medium.live m n c.quiet (sym (ap (λ (xs : List ℕ). s.medium.live.durable ++ xs) c.quiet ∙ append-nil s.medium.live.durable)) f)

pub failed-stays : (notes : List Note) (s t : LogState) → ClosedWith notes s → FailedLog s t → ClosedWith notes t
failed-stays notes s t c f = subst (ClosedWith notes) (sym f.after) (closed-fell notes s s.medium t.medium c f.medium)
