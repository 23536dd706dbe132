-- The entries of a table, told as notes one after the other. Assumes nothing.
use Rattle.std.proofs.Common.{◌≡◌, ℕ, ◌+◌, ◌<◌, ◌≤◌, true, false, ltb, List, [], ◌∷◌, ◌++◌, map, length, get_or, drop, Some, None, Option, sym, refl, ap, ◌∙◌, subst}
use Rattle.std.proofs.lemmas.List.{drop_more, at_drop_all}
use Rattle.std.proofs.lemmas.Bool.{and_parts, and_from, ltb-true}
use Rattle.terms.specs.Names.{is_name}
use Rattle.notes.proofs.Refits.{name_sound}
use Rattle.terms.specs.Lists.{every}
use Rattle.image.specs.Tables.{Entry, Table, bare}
use Rattle.image.specs.Kept.{fits_entry, Kept}
use Rattle.notes.specs.Notes.{Says, Note, name_of, by_names, unchanged, note_table, note_bytes, notes_table, notes_bytes}
use Rattle.notes.specs.Compacting.{note_of, notes_for, compact_table}
use Rattle.notes.specs.Wholeness.{Fitting, AllFit}
use Rattle.notes.proofs.Entries.{entry-fits}
use Rattle.notes.proofs.LatestNoted.{bare-kept, by_id}
use Rattle.notes.proofs.Refits.{compact_fits}
use Rattle.notes.proofs.Lengths.{AllNew, new_for}
use Rattle.depslog.specs.Drafting.{note_at}

-- Entry by entry -------------------------------------------------------------------------------------------------------------

-- the notes of the outputs from an id on
abbrev pub rest_of : Table → ℕ → List Note
rest_of t id = notes_for t (drop id t.names)

module _ (t : Table) (k : Kept t) (id : ℕ) (h : id < length t.names) where
  rest-is : rest_of t id ≡ note_of (name_of t id) (by_names t (get_or t.entries id None)) ++ rest_of t (id + 1)
  rest-is =
      ap (notes_for t) (drop_more t.names id [] h) ∙ ap (λ (x : Option Says). note_of (name_of t id) x ++ rest_of t (id + 1)) (by_id t k id h)

  pub rest-none : None ≡ get_or t.entries id None → rest_of t id ≡ rest_of t (id + 1)
  rest-none e = rest-is ∙ ap (λ (x : Option Entry). note_of (name_of t id) (by_names t x) ++ rest_of t (id + 1)) (sym e)

  pub rest_some : (x : Entry) → Some x ≡ get_or t.entries id None → rest_of t id ≡ note_at t id x ∷ rest_of t (id + 1)
  rest_some x e = rest-is ∙ ap (λ (y : Option Entry). note_of (name_of t id) (by_names t y) ++ rest_of t (id + 1)) (sym e)

-- the inputs of an entry are known
pub inputs-known : (t : Table) (k : Kept t) (id : ℕ) (x : Entry) → Some x ≡ get_or t.entries id None → every (λ i. ltb i (length t.names)) x.inputs ≡ true
inputs-known t k id x e = (and_parts _ (every (λ i. ltb i (length t.names)) x.inputs) (ap (fits_entry (length t.names)) e ∙ entry-fits t id k)).1

-- the notes that are left, from an id on: they are within the limits and new, and lead to what is known in the end
pub record Left (t u : Table) (id : ℕ) : Type 0 where
  pub table : notes_table u (rest_of t id) ≡ compact_table t
  pub fits : AllFit u (rest_of t id)
  pub new : AllNew u (rest_of t id)

pub left-first : (t u : Table) → Kept t → u ≡ bare → Left t u 0
left-first t u k e =
    let ns = rest_of t 0 in
    record {
      table = ap (λ (v : Table). notes_table v ns) e;
      fits = subst (λ (v : Table). AllFit v ns) (sym e) (compact_fits t k);
      new = subst (λ (v : Table). AllNew v ns) (sym e) (new_for t bare t.names bare-kept k.apart (λ o h. refl) (compact_fits t k));
    }

module _ (t u : Table) (k : Kept t) (id : ℕ) (h : id < length t.names) (l : Left t u id) where
  pub left-none : (v : Table) → v ≡ u → None ≡ get_or t.entries id None → Left t v (id + 1)
  left-none v e n =
      let r = rest-none t k id h n in
      let m : Left t u (id + 1) = record { table = sym (ap (notes_table u) r) ∙ l.table; fits = subst (AllFit u) r l.fits; new = subst (AllNew u) r l.new } in
      subst (λ (w : Table). Left t w (id + 1)) (sym e) m

  pub first-left : (x : Entry) → Some x ≡ get_or t.entries id None → Fitting u (note_at t id x) × (unchanged u (note_at t id x) ≡ false)
  first-left x e = let r = rest_some t k id h x e in ((subst (AllFit u) r l.fits).0, (subst (AllNew u) r l.new).0)

  pub left-some : (x : Entry) (v : Table) → v ≡ note_table u (note_at t id x) → Some x ≡ get_or t.entries id None → Left t v (id + 1)
  left-some x v d e =
      let r = rest_some t k id h x e in
      let m : Left t (note_table u (note_at t id x)) (id + 1) = record { table = sym (ap (notes_table u) r) ∙ l.table; fits = (subst (AllFit u) r l.fits).1; new = (subst (AllNew u) r l.new).1 } in
      subst (λ (w : Table). Left t w (id + 1)) (sym d) m

  -- the bytes of the notes that are left
  pub bytes-some : (x : Entry) (v : Table) → v ≡ note_table u (note_at t id x) → Some x ≡ get_or t.entries id None → notes_bytes u (rest_of t id) ≡ note_bytes u (note_at t id x) ++ notes_bytes v (rest_of t (id + 1))
  bytes-some x v d e = ap (notes_bytes u) (rest_some t k id h x e) ∙ ap (λ (w : Table). note_bytes u (note_at t id x) ++ notes_bytes w (rest_of t (id + 1))) (sym d)

  pub bytes-none : (v : Table) → v ≡ u → None ≡ get_or t.entries id None → notes_bytes u (rest_of t id) ≡ notes_bytes v (rest_of t (id + 1))
  bytes-none v e n = ap (notes_bytes u) (rest-none t k id h n) ∙ ap (λ (w : Table). notes_bytes w (rest_of t (id + 1))) (sym e)

-- known ids have names
pub all_named : (t : Table) (k : Kept t) (ids : List ℕ) → every (λ i. ltb i (length t.names)) ids ≡ true → every is_name (map (name_of t) ids) ≡ true
all_named t k [] e = refl
all_named t k (i ∷ ids) e =
    let q = and_parts (ltb i (length t.names)) (every (λ j. ltb j (length t.names)) ids) e in
    and_from (is_name (name_of t i)) (every is_name (map (name_of t) ids)) (name_sound t k i (ltb-true i (length t.names) q.0)).0 (all_named t k ids q.1)

-- none are left behind the last id
pub left-all : (t : Table) (id : ℕ) → length t.names ≤ id → rest_of t id ≡ []
left-all t id h = at_drop_all (notes_for t) t.names id h
