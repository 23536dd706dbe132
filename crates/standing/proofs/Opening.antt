-- What an open does to the notes that a log stands for. Assumes nothing.
use Rattle.std.proofs.Common.{◌≡◌, ℕ, Bool, true, false, cond, not, ◌&&◌, ltb, List, [], length, Some, None, Ok, Err, Option, Result, sym, refl, ap, ◌∙◌, subst, inl, inr, arith}
use Rattle.std.specs.Str.{bytes_eq}
use Rattle.std.proofs.lemmas.Bool.{cases_Bool, true≢false}
use Rattle.terms.specs.declared.Refusal.{Refusal}
use Rattle.terms.specs.declared.Refusal.TheVariants.{PowerOff, PowerLost, CopyShort, NoHeader, OverLimit, Full}
use Rattle.medium.specs.declared.Fault.TheVariants.{Off}
use Rattle.medium.specs.State.{State, settled, with_power}
use Rattle.medium.specs.Calls.{Synced}
use Rattle.image.specs.Scans.{known, good_bytes, over_limit}
use Rattle.notes.specs.Notes.{Note}
use Rattle.notes.specs.Wholeness.{Agree, Tells}
use Rattle.notes.proofs.Places.{same-is}
use Rattle.notes.proofs.Wholes.{mending_keeps}
use Rattle.depslog.specs.Replacing.{Replaced}
use Rattle.depslog.specs.declared.opened.Opened.{Opened}
use Rattle.depslog.specs.State.{LogState, open_on, closed_on, with_medium, live_of}
use Rattle.depslog.specs.Checks.{refuse, over_fault, mends, open_fault}
use Rattle.depslog.specs.Calls.{Ended, Mended, opened_of, OpenLit, OpenedLog, already, dark, lit}
use Rattle.standing.specs.Standing.{OpenWith, ClosedWith}
use Rattle.standing.proofs.Failing.{closed-whole, fell-settled}
use Rattle.standing.proofs.Checked.{judged}
use Rattle.standing.proofs.Moves.{open-settled, ended, closed-fell}

-- what an open of a closed log may do: it is refused and stands for the same notes, which a failure leaves too, or all of them are firm
pub data OpenMove (notes : List Note) (r : Result Opened Refusal) (t : LogState) : Type 0 where
  stays : (f : Refusal) → r ≡ Err f → (f ≡ NoHeader → ⊥) → ((offset : ℕ) → f ≡ OverLimit offset → ⊥) → ClosedWith notes t → OpenMove notes r t
  opens : (x : Opened) → r ≡ Ok x → OpenWith notes [] t → OpenMove notes r t

module _ (notes : List Note) (s : LogState) (c : ClosedWith notes s) where
  abbrev live : List ℕ
  live = live_of s.medium

  abbrev m : State
  m = with_power true s.medium

  good-tells : Tells (good_bytes live) (known live)
  good-tells = mending_keeps live c.headed c.within c.kept

  good_agrees : Agree notes (known (good_bytes live))
  good_agrees = subst (Agree notes) (sym good-tells.table) c.agree

  -- nothing is mended where all live bytes are good
  all-good : mends live ≡ false → good_bytes live ≡ live
  all-good e =
      same-is (good_bytes live) live
      (elim (bytes_eq (good_bytes live) live) as (λ b. not b ≡ false → b ≡ true) [ true ↦ (λ h. refl) | false ↦ (λ h. sym h) ] e)

  mended-open : (n : State) → Mended m (Ok tt) n → OpenWith notes [] (open_on (known live) n)
  mended-open n d =
      let P : Bool → Type 0 = λ b. cond b (Replaced {A = Unit {0}} (good_bytes live) m (Ok tt) n) (Synced {A = Unit {0}} m (Ok tt) n) in
      elim (cases_Bool (mends live)) [
        | inl e ↦
            let after = (subst P e d).after in
            open-settled notes (good_bytes live) (known live) n (ap (λ (k : State). k.power) after) (ap (λ (k : State). k.live) after) good-tells c.agree
        | inr e ↦
            let after = (subst P e d).after in
            open-settled notes live (known live) n (ap (λ (k : State). k.power) after) (ap (λ (k : State). k.live) after) (subst (λ (xs : List ℕ). Tells xs (known live)) (all-good e) good-tells) c.agree
      ]

  mended-fell : (n : State) → Mended m (Err Off) n → ClosedWith notes (closed_on n)
  mended-fell n d =
      let P : Bool → Type 0 = λ b. cond b (Replaced {A = Unit {0}} (good_bytes live) m (Err Off) n) (Synced {A = Unit {0}} m (Err Off) n) in
      elim (cases_Bool (mends live)) [
        | inl e ↦
            elim (subst P e d) [
              | inl i ↦ absurd (true≢false i.off)
              | inr b ↦
                  elim b.fell [
                    | inl f ↦ closed-fell notes s m n c f
                    | inr f ↦ closed-whole notes (good_bytes live) n (fell-settled (good_bytes live) (settled (good_bytes live)) m n refl refl f) good-tells.whole good_agrees
                  ]
            ]
        | inr e ↦ elim (subst P e d) [ inl i ↦ absurd (true≢false i.off) | inr b ↦ closed-fell notes s m n c b.fell ]
      ]

  -- what the checks of an open leave to refuse
  abbrev room_fault : Option Refusal
  room_fault = refuse Full (mends live && ltb s.medium.capacity (length (good_bytes live))) None

  fault-is : (buffer : ℕ) → open_fault s.medium.capacity live buffer ≡ refuse (CopyShort (length live)) (ltb buffer (length live)) room_fault
  fault-is buffer =
      ap (λ (b : Bool). refuse (CopyShort (length live)) (ltb buffer (length live)) (refuse NoHeader (not b) (over_fault (over_limit live) room_fault))) c.headed ∙
      ap (λ (o : Option ℕ). refuse (CopyShort (length live)) (ltb buffer (length live)) (over_fault o room_fault)) c.within

  never : (a b : Bool) (n : ℕ) (f : Refusal) → refuse (CopyShort n) a (refuse Full b None) ≡ Some f → (f ≡ NoHeader → ⊥) × ((offset : ℕ) → f ≡ OverLimit offset → ⊥)
  never true b n f e = ((λ h. let z : ◌≡◌ {A = ℕ} 0 1 = cc in omega arith), (λ k h. let z : ◌≡◌ {A = ℕ} 0 1 = cc in omega arith))
  never false true n f e = ((λ h. let z : ◌≡◌ {A = ℕ} 0 1 = cc in omega arith), (λ k h. let z : ◌≡◌ {A = ℕ} 0 1 = cc in omega arith))
  never false false n f e = absurd (let z : ◌≡◌ {A = ℕ} 0 1 = cc in omega arith)

  lit_moves : (buffer after : List ℕ) (r : Result Opened Refusal) (t : LogState) → OpenLit s buffer r t after → OpenMove notes r t
  lit_moves buffer after r t l =
      let fault : Option Refusal = open_fault s.medium.capacity live (length buffer) in
      let u : LogState = with_medium m s in
      elim (judged fault u r t (Ended (Mended m) (known live) (opened_of live) PowerLost r t) l.judged) [
        | inl q ↦
            let v = never (ltb (length buffer) (length live)) (mends live && ltb s.medium.capacity (length (good_bytes live))) (length live) q.refusal (sym (fault-is (length buffer)) ∙ q.is) in
            stays q.refusal q.answer v.0 v.1
            (subst (ClosedWith notes) (sym q.same) (record { closed = c.closed; quiet = c.quiet; headed = c.headed; within = c.within; kept = c.kept; agree = c.agree }))
        | inr e ↦
            elim (ended (Mended m) (known live) (opened_of live) PowerLost r t e.1) [
              | inl g ↦ opens (opened_of live) g.0 (subst (OpenWith notes []) (sym g.3) (mended-open g.1 g.2))
              | inr d ↦
                  stays PowerLost d.0 (λ h. let z : ◌≡◌ {A = ℕ} 0 1 = cc in omega arith) (λ k h. let z : ◌≡◌ {A = ℕ} 0 1 = cc in omega arith)
                  (subst (ClosedWith notes) (sym d.3) (mended-fell d.1 d.2))
            ]
      ]

  pub opened_moves : (buffer after : List ℕ) (r : Result Opened Refusal) (t : LogState) → OpenedLog s buffer r t after → OpenMove notes r t
  opened_moves buffer after r t (already a) = absurd (true≢false (sym a.is_open ∙ c.closed))
  opened_moves buffer after r t (dark d) =
      stays PowerOff d.answer (λ h. let z : ◌≡◌ {A = ℕ} 0 1 = cc in omega arith) (λ k h. let z : ◌≡◌ {A = ℕ} 0 1 = cc in omega arith) (subst (ClosedWith notes) (sym d.log) c)
  opened_moves buffer after r t (lit l) = lit_moves buffer after r t l
