-- Every call keeps a log sound. Assumes nothing.
use Rattle.std.proofs.Common.{◌≡◌, ℕ, Bool, List, [], ◌++◌, take, Some, Err, Option, Result, sym, refl, ap, ◌∙◌, subst, inl, inr, arith}
use Rattle.std.proofs.lemmas.Bool.{true≢false}
use Rattle.terms.specs.declared.Refusal.{Refusal}
use Rattle.terms.specs.declared.Refusal.TheVariants.{NoHeader, OverLimit, AlreadyOpen, Closed}
use Rattle.terms.specs.Lists.{◌▷◌}
use Rattle.image.specs.Scans.{known}
use Rattle.notes.specs.Notes.{Note}
use Rattle.notes.specs.Meant.{meant}
use Rattle.notes.specs.Compacting.{entries_of}
use Rattle.notes.proofs.LatestNoted.{entries-noted}
use Rattle.depslog.specs.declared.opened.Opened.{Opened}
use Rattle.depslog.specs.State.{LogState, live_of}
use Rattle.depslog.specs.Checks.{sync_fault}
use Rattle.depslog.specs.Calls.{Judged, OpenedLog, already, dark, lit}
use Rattle.depslog.specs.NoteCall.{note_fault}
use Rattle.depslog.specs.Recompacting.{recompact_fault}
use Rattle.standing.specs.Standing.{OpenWith, Shortened, Sound}
use Rattle.standing.specs.Laws.{NewIsSound, CallsKeepSound, SoundTells, SoundOpens}
use Rattle.standing.proofs.Checked.{judged}
use Rattle.standing.proofs.Moves.{open-tells, synced_moves, noted_moves, recompacted_moves, failed_moves, failed-stays}
use Rattle.standing.proofs.Opening.{OpenMove, stays, opens, opened_moves}

pub new-is_sound : NewIsSound
new-is_sound m q h o k =
    let t = known (live_of m) in
    inr (entries_of t, record { closed = refl; quiet = q; headed = h; within = o; kept = k; agree = entries-noted t })

-- what an open log, one that is shortened, and a closed one come to
opened_sound : (firm ns : List Note) (t : LogState) → OpenWith firm ns t → Sound t
opened_sound firm ns t o = inl (firm, ns, o)

shortened_sound : (firm ns : List Note) (t : LogState) → Shortened firm ns t → Sound t
shortened_sound firm ns t s = inr (firm ++ take s.count ns, s.stands)

same_sound : (s t : LogState) → t ≡ s → Sound s → Sound t
same_sound s t e x = subst Sound (sym e) x

-- a closed log refuses, and nothing changes
closed_refuses : {A : Type 0} (o : Option Refusal) (s : LogState) (r : Result A Refusal) (t : LogState) (rest : Type 0) → o ≡ Some Closed → Judged o s r t rest → t ≡ s
closed_refuses o s r t rest e j =
    elim (judged o s r t rest j) [ inl q ↦ q.same | inr n ↦ absurd (let z : ◌≡◌ {A = ℕ} 0 1 = let a = n.0 in cc in omega arith) ]

-- an open of an open log changes nothing
open_refuses : (firm ns : List Note) (s t : LogState) (buffer after : List ℕ) (r : Result Opened Refusal) → OpenWith firm ns s → OpenedLog s buffer r t after → (r ≡ Err AlreadyOpen) × (t ≡ s)
open_refuses firm ns s t buffer after r o (already a) = (a.answer, a.log)
open_refuses firm ns s t buffer after r o (dark d) = absurd (true≢false (sym o.is_open ∙ d.closed))
open_refuses firm ns s t buffer after r o (lit l) = absurd (true≢false (sym o.is_open ∙ l.closed))

move_sound : (notes : List Note) (r : Result Opened Refusal) (t : LogState) → OpenMove notes r t → Sound t
move_sound notes r t (stays f a h k c) = inr (notes, c)
move_sound notes r t (opens x a o) = inl (notes, [], o)

pub calls_keep_sound : CallsKeepSound
calls_keep_sound = record {
  opened = λ s t buffer after r j x.
      elim x [
        | inl w ↦ same_sound s t (open_refuses w.0 w.1 s t buffer after r w.2 j).1 (inl w)
        | inr w ↦ move_sound w.0 r t (opened_moves w.0 s w.1 buffer after r t j)
      ];
  noted = λ s t bytes output mtime inputs r time j x.
      elim x [
        | inl w ↦
            elim (noted_moves w.0 w.1 s t bytes output mtime inputs r time w.2 j) [
              | inl q ↦ same_sound s t q.same (inl w)
              | inr q ↦
                  elim q [
                    | inl g ↦ opened_sound w.0 (w.1 ▷ meant bytes output mtime inputs) t g.stands
                    | inr g ↦ shortened_sound w.0 (w.1 ▷ meant bytes output mtime inputs) t g.stands
                  ]
            ]
        | inr w ↦
            same_sound s t (closed_refuses (note_fault s.is_open s.table bytes output mtime inputs) s r t _ (ap (λ (b : Bool). note_fault b s.table bytes output mtime inputs) w.1.closed) j) (inr w)
      ];
  synced = λ s t r j x.
      elim x [
        | inl w ↦
            elim (synced_moves w.0 w.1 s t r w.2 j) [
              | inl g ↦ opened_sound (w.0 ++ w.1) [] t g.stands
              | inr g ↦ shortened_sound w.0 w.1 t g.stands
            ]
        | inr w ↦ same_sound s t (closed_refuses (sync_fault s.is_open) s r t _ (ap sync_fault w.1.closed) j) (inr w)
      ];
  recompacted = λ s t r j x.
      elim x [
        | inl w ↦
            elim (recompacted_moves w.0 w.1 s w.2 t r j) [
              | inl q ↦ same_sound s t q.same (inl w)
              | inr q ↦
                  elim q [
                    | inl g ↦ opened_sound (w.0 ++ w.1) [] t g.stands
                    | inr g ↦ shortened_sound w.0 w.1 t g.stands
                  ]
            ]
        | inr w ↦ same_sound s t (closed_refuses (recompact_fault s.is_open s.medium.capacity s.table) s r t _ (ap (λ (b : Bool). recompact_fault b s.medium.capacity s.table) w.1.closed) j) (inr w)
      ];
  failed = λ s t f x.
      elim x [
        | inl w ↦ shortened_sound w.0 w.1 t (failed_moves w.0 w.1 s t w.2 f)
        | inr w ↦ inr (w.0, failed-stays w.0 s t w.1 f)
      ];
}

pub sound_tells : SoundTells
sound_tells s x is_open =
    elim x [
      | inl w ↦ open-tells w.0 w.1 s w.2
      | inr w ↦ absurd (true≢false (sym is_open ∙ w.1.closed))
    ]

-- an answer of a move is neither of the two refusals
move_not : (notes : List Note) (r : Result Opened Refusal) (t : LogState) → OpenMove notes r t → (r ≡ Err NoHeader → ⊥) × ((offset : ℕ) → r ≡ Err (OverLimit offset) → ⊥)
move_not notes r t (stays f a h k c) = ((λ e. h cc), (λ n e. k n cc))
move_not notes r t (opens x a o) = ((λ e. let z : ◌≡◌ {A = ℕ} 0 1 = cc in omega arith), (λ n e. let z : ◌≡◌ {A = ℕ} 0 1 = cc in omega arith))

pub sound_opens : SoundOpens
sound_opens s t buffer after r x j =
    elim x [
      | inl w ↦
          let a = (open_refuses w.0 w.1 s t buffer after r w.2 j).0 in
          ((λ e. let z : ◌≡◌ {A = ℕ} 0 1 = cc in omega arith), (λ n e. let z : ◌≡◌ {A = ℕ} 0 1 = cc in omega arith))
      | inr w ↦ move_not w.0 r t (opened_moves w.0 s w.1 buffer after r t j)
    ]
