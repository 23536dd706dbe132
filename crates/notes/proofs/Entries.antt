-- What a record more leaves of the entries. Assumes nothing.
use Rattle.std.proofs.Common.{◌≡◌, ℕ, ◌+◌, ◌^◌, Bool, true, false, cond, ◌&&◌, ltb, leb, List, [], ◌∷◌, map, length, get_or, Some, None, Option, sym, refl, ap, ◌∙◌, inl, inr, arith}
use Rattle.std.specs.Str.{bytes_eq}
use Rattle.std.proofs.lemmas.List.{get_or_append_left, get_or_push, get_or-set_same, get_or-set_other}
use Rattle.std.proofs.lemmas.Bool.{cases_Bool, both_ways, and_parts, ltb-true, cond-true, cond-false}
use Rattle.terms.specs.Lists.{every, is_in, ◌▷◌}
use Rattle.image.specs.Bytes.{path, deps}
use Rattle.image.specs.Tables.{Entry, Table, learn, learn_all}
use Rattle.image.specs.Kept.{fits_entry, Kept}
use Rattle.image.specs.Laws.{AllWritable}
use Rattle.notes.specs.Notes.{Says, name_of, by_names, entry_at, entry_of, id_in}
use Rattle.notes.proofs.Places.{same_self, same-is, every_at, place_none, place_push, is_known_lem}
use Rattle.notes.proofs.Keeping.{learn-kept}

-- an output that is not known has no entry
pub entry-none : (t : Table) (output : List ℕ) → is_in output t.names ≡ false → entry_of t output ≡ None
entry-none t output e = ap (entry_at t) (place_none (bytes_eq output) 0 t.names e)

-- the entry of an output that is known stands at its id
pub entry_known : (t : Table) (output : List ℕ) → is_in output t.names ≡ true → entry_of t output ≡ by_names t (get_or t.entries (id_in t.names output) None)
entry_known t output e = ap (entry_at t) (is_known_lem t.names output e).place

pub entry-fits : (t : Table) (id : ℕ) → Kept t → fits_entry (length t.names) (get_or t.entries id None) ≡ true
entry-fits t id k = every_at (fits_entry (length t.names)) t.entries None id k.fitting refl

-- A path record leaves each entry as it is -------------------------------------------------------------------------------

module _ (t : Table) (name : List ℕ) where
  names_same : (ids : List ℕ) → every (λ id. ltb id (length t.names)) ids ≡ true → map (name_of (learn t (path name))) ids ≡ map (name_of t) ids
  names_same [] e = refl
  names_same (i ∷ ids) e =
      let q = and_parts (ltb i (length t.names)) (every (λ id. ltb id (length t.names)) ids) e in
      let g : get_or (t.names ▷ name) i [] ≡ get_or t.names i [] = get_or_append_left t.names (name ∷ []) [] i (ltb-true i (length t.names) q.0) in
      let r = names_same ids q.1 in cc

  by_same : (x : Option Entry) → fits_entry (length t.names) x ≡ true → by_names (learn t (path name)) x ≡ by_names t x
  by_same None e = refl
  by_same (Some x) e =
      let q = and_parts (ltb x.mtime (2 ^ 64) && leb (length x.inputs) 64) (every (λ id. ltb id (length t.names)) x.inputs) e in
      ap (λ (ns : List (List ℕ)). Some (record { mtime = x.mtime; inputs = ns })) (names_same x.inputs q.1)

  new_none : Kept t → (b : Bool) → entry_at (learn t (path name)) (cond b (Some (0 + length t.names)) None) ≡ None
  new_none k true = ap (by_names (learn t (path name))) (get_or_push t.entries None None (0 + length t.names) (omega (arith, k.paired)))
  new_none k false = refl

  path-same : Kept t → (output : List ℕ) → entry_of (learn t (path name)) output ≡ entry_of t output
  path-same k output =
      elim (cases_Bool (is_in output t.names)) [
        | inl e ↦
            let q = is_known_lem t.names output e in
            let id : ℕ = id_in t.names output in
            let g : get_or (t.entries ▷ None) id None ≡ get_or t.entries id None = get_or_append_left t.entries (None ∷ []) None id (omega (arith, q.within, k.paired)) in
            ap (entry_at (learn t (path name))) (q.stays (name ∷ [])) ∙ ap (by_names (learn t (path name))) g ∙
            by_same (get_or t.entries id None) (entry-fits t id k) ∙ sym (entry_known t output e)
        | inr e ↦
            ap (entry_at (learn t (path name))) (place_push (bytes_eq output) 0 t.names name e) ∙ new_none k (bytes_eq output name) ∙ sym (entry-none t output e)
      ]

pub paths-same : (t : Table) (names : List (List ℕ)) → Kept t → AllWritable t (map path names) → (output : List ℕ) → entry_of (learn_all t (map path names)) output ≡ entry_of t output
paths-same t [] k w output = refl
paths-same t (n ∷ ns) k w output = paths-same (learn t (path n)) ns (learn-kept t (path n) k w.0) w.1 output ∙ path-same t n k output

-- A deps record sets one entry -------------------------------------------------------------------------------------------

module _ (t : Table) (k : Kept t) (out : List ℕ) (mtime : ℕ) (inputs : List ℕ) (known : is_in out t.names ≡ true) where
  abbrev after : Table
  after = learn t (deps (id_in t.names out) mtime inputs)

  by_after : (x : Option Entry) → by_names after x ≡ by_names t x
  by_after None = refl
  by_after (Some x) = refl

  abbrev said : Option Says
  said = Some (record { mtime = mtime; inputs = map (name_of t) inputs })

  set_other : (output : List ℕ) → bytes_eq output out ≡ false → entry_of after output ≡ entry_of t output
  set_other output s =
      elim (cases_Bool (is_in output t.names)) [
        | inl b ↦
            let m = is_known_lem t.names output b in
            let i : ℕ = id_in t.names out in
            let j : ℕ = id_in t.names output in
            let ne : j ≡ i → ⊥ = λ q.
            let w : output ≡ out = sym m.holds ∙ ap (λ (z : ℕ). get_or t.names z []) q ∙ (is_known_lem t.names out known).holds in
            both_ways (bytes_eq output out) s (ap (λ (x : List ℕ). bytes_eq output x) (sym w) ∙ same_self output) in
            ap (entry_at after) m.place ∙ ap (by_names after) (get_or-set_other t.entries i j _ None ne) ∙ by_after (get_or t.entries j None) ∙ sym (entry_known t output b)
        | inr b ↦ entry-none after output b ∙ sym (entry-none t output b)
      ]

  pub set-entry : (output : List ℕ) → entry_of after output ≡ cond (bytes_eq output out) said (entry_of t output)
  set-entry output =
      elim (cases_Bool (bytes_eq output out)) [
        | inl s ↦
            let q = is_known_lem t.names out known in
            ap (λ (x : List ℕ). entry_of after x) (same-is output out s) ∙ ap (entry_at after) q.place ∙
            ap (by_names after) (get_or-set_same t.entries (id_in t.names out) _ None (omega (arith, q.within, k.paired))) ∙
            sym (cond-true (bytes_eq output out) said (entry_of t output) s)
        | inr s ↦ set_other output s ∙ sym (cond-false (bytes_eq output out) said (entry_of t output) s)
      ]
