-- What is known where no check refuses. Assumes nothing.
use Rattle.std.proofs.Common.{◌≡◌, ℕ, ◌+◌, ◌^◌, ◌<◌, Bool, true, false, not, ltb, ◌⊎◌, List, [], ◌∷◌, map, length, Some, None, Err, Option, Result, sym, refl, inl, inr, arith}
use Rattle.std.proofs.lemmas.List.{length-map}
use Rattle.std.proofs.lemmas.Bool.{and_from, ltb-false}
use Rattle.terms.specs.declared.Place.{Place}
use Rattle.terms.specs.declared.Refusal.{Refusal}
use Rattle.terms.specs.declared.Refusal.TheVariants.{TooManyPaths, Outside, NotName}
use Rattle.terms.specs.Lists.{every}
use Rattle.terms.specs.Names.{is_name}
use Rattle.image.specs.Tables.{Table}
use Rattle.notes.specs.Notes.{note_table}
use Rattle.terms.specs.Places.{at_place}
use Rattle.notes.specs.Meant.{meant}
use Rattle.notes.specs.Wholeness.{Fitting}
use Rattle.depslog.specs.State.{LogState}
use Rattle.depslog.specs.Checks.{refuse}
use Rattle.depslog.specs.Calls.{Judged}
use Rattle.depslog.specs.Noting.{outside, name_fault}
use Rattle.depslog.specs.NoteCall.{note_fault}

-- a check refuses, and nothing changes, or none does
pub record Refused {A : Type 0} (o : Option Refusal) (s : LogState) (r : Result A Refusal) (t : LogState) : Type 0 where
  pub refusal : Refusal
  pub is : o ≡ Some refusal
  pub answer : r ≡ Err refusal
  pub same : t ≡ s

pub judged : {A : Type 0} (o : Option Refusal) (s : LogState) (r : Result A Refusal) (t : LogState) (rest : Type 0) → Judged o s r t rest → Refused o s r t ⊎ ((o ≡ None) × rest)
judged (Some f) s r t rest j = inl (record { refusal = f; is = refl; answer = j.0; same = j.1 })
judged None s r t rest j = inr (refl, j)

-- a check that passes, and those that follow
pub passed : (f : Refusal) (b : Bool) (o : Option Refusal) → refuse f b o ≡ None → (b ≡ false) × (o ≡ None)
passed f true o e = absurd (let z : ◌≡◌ {A = ℕ} 0 1 = cc in omega arith)
passed f false o e = (refl, e)

not-false : (b : Bool) → not b ≡ false → b ≡ true
not-false true e = refl
not-false false e = sym e

names-passed : (bytes : List ℕ) (i : ℕ) (ps : List Place) (o : Option Refusal) → name_fault bytes i ps o ≡ None → (every is_name (map (at_place bytes) ps) ≡ true) × (o ≡ None)
names-passed bytes i [] o e = (refl, e)
names-passed bytes i (p ∷ ps) o e =
    let rest = name_fault bytes (i + 1) ps o in
    let a = passed (Outside i) (outside bytes p) (refuse (NotName i) (not (is_name (at_place bytes p))) rest) e in
    let b = passed (NotName i) (not (is_name (at_place bytes p))) rest a.1 in
    let c = names-passed bytes (i + 1) ps o b.1 in
    (and_from (is_name (at_place bytes p)) (every is_name (map (at_place bytes) ps)) (not-false (is_name (at_place bytes p)) b.0) c.0, c.1)

-- a note that no check refuses is within the limits
pub note_fits : (t : Table) (bytes : List ℕ) (output : Place) (mtime : ℕ) (inputs : List Place) → mtime < 2 ^ 64 → note_fault true t bytes output mtime inputs ≡ None → Fitting t (meant bytes output mtime inputs)
note_fits t bytes output mtime inputs time e =
    let known : ℕ = length (note_table t (meant bytes output mtime inputs)).names in
    let last = refuse TooManyPaths (ltb 256 known) None in
    let a = passed _ (ltb 64 (length inputs)) (name_fault bytes 0 (output ∷ inputs) last) e in
    let b = names-passed bytes 0 (output ∷ inputs) last a.1 in
    let c = passed TooManyPaths (ltb 256 known) None b.1 in
    record { named = b.0; few = omega (arith, ltb-false 64 (length inputs) a.0, length-map inputs (at_place bytes)); timed = time; room = omega (arith, ltb-false 256 known c.0) }
