-- A log's entries are the latest of its notes, and a table's entries are notes of it. Assumes nothing.
use Rattle.std.proofs.Common.{◌≡◌, ℕ, Bool, true, false, cond, ◌||◌, ◌⊎◌, List, [], ◌∷◌, ◌++◌, Some, None, Option, sym, refl, ap, ◌∙◌, inl, inr, arith, lit≤}
use Rattle.std.specs.Str.{bytes_eq}
use Rattle.std.proofs.lemmas.Bool.{cases_Bool, or_left, cond-true, cond-false}
use Rattle.terms.specs.Lists.{is_in}
use Rattle.image.specs.Tables.{Table, bare}
use Rattle.image.specs.Kept.{Kept}
use Rattle.notes.specs.Notes.{Says, Note, entry_at, entry_of, note_table, notes_table}
use Rattle.notes.specs.Compacting.{note_of, notes_for, entries_of}
use Rattle.notes.specs.Latest.{say_now, latest_after, latest}
use Rattle.notes.specs.Wholeness.{AllFit, Agree}
use Rattle.notes.specs.Laws.{LatestNoted, AgreeGoesOn, ById}
use Rattle.notes.proofs.Places.{same-is, place_own}
use Rattle.notes.proofs.Entries.{entry-none}
use Rattle.notes.proofs.Noting.{note_kept, note_entry}

pub latest-after : (t : Table) (ns : List Note) → Kept t → AllFit t ns → (output : List ℕ) → entry_of (notes_table t ns) output ≡ latest_after (entry_of t output) output ns
latest-after t [] k a output = refl
latest-after t (n ∷ ns) k a output =
    latest-after (note_table t n) ns (note_kept t n k a.0) a.1 output ∙ ap (λ (x : Option Says). latest_after x output ns) (note_entry t n k a.0 output)

pub bare-kept : Kept bare
bare-kept = record { few = lit≤ tt; named = refl; apart = refl; paired = refl; fitting = refl }

pub latest-noted : LatestNoted
latest-noted ns a output = sym (latest-after bare ns bare-kept a output)

latest-append : (x : Option Says) (output : List ℕ) (ms ns : List Note) → latest_after x output (ms ++ ns) ≡ latest_after (latest_after x output ms) output ns
latest-append x output [] ns = refl
latest-append x output (m ∷ ms) ns = latest-append (say_now x output m) output ms ns

pub agree_goes_on : AgreeGoesOn
agree_goes_on t old ns k a g output =
    latest-append None output old ns ∙ ap (λ (x : Option Says). latest_after x output ns) (g output) ∙ sym (latest-after t ns k a output)

-- A table's entries as notes ---------------------------------------------------------------------------------------------

module _ (t : Table) (o : List ℕ) where
  step_other : (x : Option Says) (n : List ℕ) (e : Option Says) (rest : List Note) → bytes_eq o n ≡ false → latest_after x o (note_of n e ++ rest) ≡ latest_after x o rest
  step_other x n None rest s = refl
  step_other x n (Some e) rest s = ap (λ (y : Option Says). latest_after y o rest) (cond-false (bytes_eq o n) _ x s)

  step_same : (x : Option Says) (n : List ℕ) (e : Option Says) (rest : List Note) → bytes_eq o n ≡ true → (x ≡ None) ⊎ (x ≡ e) → latest_after x o (note_of n e ++ rest) ≡ latest_after e o rest
  step_same x n None rest s (inl h) = ap (λ (y : Option Says). latest_after y o rest) h
  step_same x n None rest s (inr h) = ap (λ (y : Option Says). latest_after y o rest) h
  step_same x n (Some e) rest s h = ap (λ (y : Option Says). latest_after y o rest) (cond-true (bytes_eq o n) _ x s)

  either_way : (b : Bool) (x : Option Says) → cond b x x ≡ x
  either_way true x = refl
  either_way false x = refl

  -- where nothing else was said of o before, its entry is said last if it is among the names
  latest_for : (x : Option Says) (names : List (List ℕ)) → (x ≡ None) ⊎ (x ≡ entry_of t o) → latest_after x o (notes_for t names) ≡ cond (is_in o names) (entry_of t o) x
  latest_for x [] h = refl
  latest_for x (n ∷ ns) h =
      elim (cases_Bool (bytes_eq o n)) [
        | inl s ↦
            let e : entry_of t o ≡ entry_of t n = ap (entry_of t) (same-is o n s) in
            step_same x n (entry_of t n) (notes_for t ns) s (elim h [ inl z ↦ inl z | inr z ↦ inr (z ∙ e) ]) ∙
            ap (λ (y : Option Says). latest_after y o (notes_for t ns)) (sym e) ∙ latest_for (entry_of t o) ns (inr refl) ∙ either_way (is_in o ns) (entry_of t o) ∙
            sym (cond-true (is_in o (n ∷ ns)) (entry_of t o) x (or_left (bytes_eq o n) (is_in o ns) s))
        | inr s ↦
            step_other x n (entry_of t n) (notes_for t ns) s ∙ latest_for x ns h ∙ ap (λ (b : Bool). cond (b || is_in o ns) (entry_of t o) x) (sym s)
      ]

  noted_for : latest (entries_of t) o ≡ entry_of t o
  noted_for =
      latest_for None t.names (inl refl) ∙
      elim (cases_Bool (is_in o t.names)) [
        | inl e ↦ cond-true (is_in o t.names) (entry_of t o) None e
        | inr e ↦ cond-false (is_in o t.names) (entry_of t o) None e ∙ sym (entry-none t o e)
      ]

pub entries-noted : (t : Table) → Agree (entries_of t) t
entries-noted t output = noted_for t output

pub by_id : (t : Table) → Kept t → ById t
by_id t k id h = ap (entry_at t) (place_own 0 t.names id k.apart h ∙ ap Some (omega arith))
