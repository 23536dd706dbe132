-- What a note answers, case by case. Assumes nothing.
use Rattle.std.proofs.Common.{◌≡◌, ℕ, ◌+◌, ◌^◌, ◌<◌, ◌≤◌, Bool, true, false, cond, not, ◌&&◌, ltb, List, ◌∷◌, length, Some, None, Ok, Err, Option, Result, sym, refl, ap, ◌∙◌, subst, inl, inr, arith}
use Rattle.std.proofs.lemmas.List.{length-append, length-map}
use Rattle.std.proofs.lemmas.Bool.{false≢true, cond-true, cond-false, lt-ltb, le-ltb}
use Rattle.medium.specs.declared.Fault.{Fault}
use Rattle.medium.specs.declared.Fault.TheVariants as fault
use Rattle.medium.specs.Refusals.{refusal_of, is_off}
use Rattle.medium.specs.State.{State}
use Rattle.terms.specs.declared.Place.{Place}
use Rattle.terms.specs.declared.Refusal.{Refusal}
use Rattle.terms.specs.declared.Refusal.TheVariants.{PowerOff, Full, TooManyInputs, TooManyPaths}
use Rattle.image.specs.Tables.{Table, learn_all}
use Rattle.image.specs.Kept.{Kept}
use Rattle.notes.specs.Notes.{Note, unchanged, new_names, names_of, note_bytes, note_table}
use Rattle.terms.specs.Places.{at_place}
use Rattle.notes.specs.Meant.{meant}
use Rattle.notes.specs.Wholeness.{Fitting}
use Rattle.notes.proofs.Noting.{records-none, note_names}
use Rattle.depslog.specs.State.{LogState, closed_on, open_on}
use Rattle.depslog.specs.Calls.{Judged, Ended}
use Rattle.depslog.specs.Checks.{refuse}
use Rattle.depslog.specs.Noting.{name_fault}
use Rattle.depslog.specs.Appending.{AppendedAll}
use Rattle.depslog.specs.NoteCall.{note_fault, no_room, NewlyNoted, NotedLog, WrittenOn}
use Rattle.depslog.proofs.Cuts.{Checked}
use Rattle.depslog.proofs.Noted.{names-bad, names-good}

-- a log, open or closed
abbrev pub on : Bool → Table → State → LogState
on b t m = cond b (open_on t m) (closed_on m)

-- A note that says something new ------------------------------------------------------------------------------------------------

module _ (t : Table) (n : Note) (m k : State) where
  abbrev bs : List ℕ
  bs = note_bytes t n

  abbrev Rest : Bool → Result (Unit {0}) Refusal → LogState → Type 0
  Rest full r u = Judged (refuse Full full None) (open_on t m) r u (Ended (AppendedAll bs m) (note_table t n) tt PowerOff r u)

  pub newly_all : (b : Bool) (u : Table) → b ≡ true → no_room m bs ≡ false → AppendedAll {A = Unit {0}} bs m (Ok tt) k → u ≡ note_table t n → NewlyNoted n (on b t m) (Ok tt) (on b u k)
  newly_all false u o e a w = absurd (false≢true o)
  newly_all true u o e a w = subst (λ (x : Bool). Rest x (Ok tt) (open_on u k)) (sym e) (inl (record { answer = refl; done = a; after = ap (λ (v : Table). open_on v k) w }))

  newly_full : (b : Bool) → b ≡ true → no_room m bs ≡ true → k ≡ m → NewlyNoted n (on b t m) (Err Full) (on b t k)
  newly_full false o e w = absurd (false≢true o)
  newly_full true o e w = subst (λ (x : Bool). Rest x (Err Full) (open_on t k)) (sym e) (refl, ap (open_on t) w)

  newly_off : (b : Bool) → b ≡ true → no_room m bs ≡ false → AppendedAll {A = Unit {0}} bs m (Err fault.Off) k → NewlyNoted n (on b t m) (Err PowerOff) (closed_on k)
  newly_off false o e a = absurd (false≢true o)
  newly_off true o e a = subst (λ (x : Bool). Rest x (Err PowerOff) (closed_on k)) (sym e) (inr (record { answer = refl; done = a; after = refl }))

  -- what the medium says is the log's answer, and a failure closes it
  pub newly_not : (b o : Bool) (f : Fault) (r : Refusal) → b ≡ true → WrittenOn bs m (Err f) k → r ≡ refusal_of f → o ≡ (b && not (is_off f)) → NewlyNoted n (on b t m) (Err r) (on o t k)
  newly_not b o fault.Full r e w a c =
      let z : (b && true) ≡ true = ap (λ (x : Bool). x && true) e in
      rw (a, c) (subst (λ (x : Bool). NewlyNoted n (on b t m) (Err Full) (on x t k)) (e ∙ sym z) (newly_full b e w.0 w.1))
  newly_not b o fault.Off r e w a c =
      let z : (b && false) ≡ false = ap (λ (x : Bool). x && false) e in
      rw (a, c) (subst (λ (x : Bool). NewlyNoted n (on b t m) (Err PowerOff) (on x t k)) (sym z) (newly_off b e w.0 w.1))

-- Its checks ----------------------------------------------------------------------------------------------------------------------

module _ (t : Table) (m : State) (bytes : List ℕ) (output : Place) (mtime : ℕ) (inputs : List Place) where
  abbrev n : Note
  n = meant bytes output mtime inputs

  abbrev last : Option Refusal
  last = refuse TooManyPaths (ltb 256 (length (note_table t n).names)) None

  abbrev Case : Option Refusal → Bool → Result (Unit {0}) Refusal → LogState → Type 0
  Case f same r u = Judged f (open_on t m) r u (cond same ((r ≡ Ok tt) × (u ≡ open_on t m)) (NewlyNoted n (open_on t m) r u))

  past-inputs : length inputs ≤ 64 → note_fault true t bytes output mtime inputs ≡ name_fault bytes 0 (output ∷ inputs) last
  past-inputs h = cond-false (ltb 64 (length inputs)) (Some TooManyInputs) (name_fault bytes 0 (output ∷ inputs) last) (le-ltb 64 (length inputs) h)

  -- the output or an input is no name
  pub noted-bad : (b : Bool) (f : Refusal) → b ≡ true → length inputs ≤ 64 → Err f ≡ Checked (name_fault bytes 0 (output ∷ inputs) None) →
      NotedLog bytes output mtime inputs (on b t m) (Err f) (on b t m)
  noted-bad false f o h e = absurd (false≢true o)
  noted-bad true f o h e =
      subst (λ (x : Option Refusal). Case x (unchanged t n) (Err f) (open_on t m)) (sym (past-inputs h ∙ names-bad bytes 0 (output ∷ inputs) f last e)) (refl, refl)

  past-names : length inputs ≤ 64 → Ok tt ≡ Checked (name_fault bytes 0 (output ∷ inputs) None) → note_fault true t bytes output mtime inputs ≡ last
  past-names h e = past-inputs h ∙ (names-good bytes 0 (output ∷ inputs) last e).1

  pub noted-same : (b : Bool) → b ≡ true → length inputs ≤ 64 → Ok tt ≡ Checked (name_fault bytes 0 (output ∷ inputs) None) → Kept t → unchanged t n ≡ true →
      NotedLog bytes output mtime inputs (on b t m) (Ok tt) (on b t m)
  noted-same false o h e k same = absurd (false≢true o)
  noted-same true o h e k same =
      let w : note_table t n ≡ t = ap (learn_all t) (records-none t n same) in
      let l : last ≡ None = cond-false (ltb 256 (length (note_table t n).names)) (Some TooManyPaths) None (le-ltb 256 (length (note_table t n).names) (omega (arith, k.few, ap (λ (u : Table). length u.names) w))) in
      subst (λ (x : Option Refusal). Case x (unchanged t n) (Ok tt) (open_on t m)) (sym (past-names h e ∙ l)) (subst (λ (x : Bool). Case None x (Ok tt) (open_on t m)) (sym same) (refl, refl))

  -- how many names are known then
  pub names_then : unchanged t n ≡ false → (fresh : List (List ℕ)) → fresh ≡ new_names t.names (names_of n) → length (note_table t n).names ≡ length t.names + length fresh
  names_then new fresh e = ap length (note_names t n new) ∙ length-append t.names (new_names t.names (names_of n)) ∙ ap (λ (ns : List (List ℕ)). length t.names + length ns) (sym e)

  pub noted_many : (b : Bool) → b ≡ true → length inputs ≤ 64 → Ok tt ≡ Checked (name_fault bytes 0 (output ∷ inputs) None) → 256 < length (note_table t n).names →
      NotedLog bytes output mtime inputs (on b t m) (Err TooManyPaths) (on b t m)
  noted_many false o h e many = absurd (false≢true o)
  noted_many true o h e many =
      let l : last ≡ Some TooManyPaths = cond-true (ltb 256 (length (note_table t n).names)) (Some TooManyPaths) None (lt-ltb 256 (length (note_table t n).names) many) in
      subst (λ (x : Option Refusal). Case x (unchanged t n) (Err TooManyPaths) (open_on t m)) (sym (past-names h e ∙ l)) (refl, refl)

  pub noted_new : (b : Bool) (r : Result (Unit {0}) Refusal) (u : LogState) → b ≡ true → length inputs ≤ 64 → Ok tt ≡ Checked (name_fault bytes 0 (output ∷ inputs) None) →
      length (note_table t n).names ≤ 256 → unchanged t n ≡ false → NewlyNoted n (on b t m) r u → NotedLog bytes output mtime inputs (on b t m) r u
  noted_new false r u o h e few new w = absurd (false≢true o)
  noted_new true r u o h e few new w =
      let l : last ≡ None = cond-false (ltb 256 (length (note_table t n).names)) (Some TooManyPaths) None (le-ltb 256 (length (note_table t n).names) few) in
      subst (λ (x : Option Refusal). Case x (unchanged t n) r u) (sym (past-names h e ∙ l)) (subst (λ (x : Bool). Case None x r u) (sym new) w)

  pub noted-fits : length inputs ≤ 64 → mtime < 2 ^ 64 → Ok tt ≡ Checked (name_fault bytes 0 (output ∷ inputs) None) → length (note_table t n).names ≤ 256 → Fitting t n
  noted-fits h time e few =
      record { named = (names-good bytes 0 (output ∷ inputs) None e).0; few = omega (arith, h, length-map inputs (at_place bytes)); timed = time; room = few }
