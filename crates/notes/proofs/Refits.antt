-- The notes of a recompaction fit an empty log. Assumes nothing.
use Rattle.std.proofs.Common.{◌≡◌, ℕ, ◌^◌, ◌<◌, ◌≤◌, true, ◌&&◌, ltb, leb, List, [], ◌∷◌, ◌++◌, map, length, get_or, Some, None, Option, sym, refl, ap, ◌∙◌, subst, inl, inr, arith}
use Rattle.std.proofs.lemmas.List.{length-map, get_or_default}
use Rattle.std.proofs.lemmas.Bool.{cases_Bool, and_parts, and_from, ltb-true, leb-true}
use Rattle.terms.specs.Lists.{every, is_in}
use Rattle.terms.specs.Names.{is_name}
use Rattle.image.specs.Tables.{Entry, Table, bare, learn_all}
use Rattle.image.specs.Bytes.{Record}
use Rattle.image.specs.Kept.{fits_entry, Kept}
use Rattle.notes.specs.Notes.{Says, Note, name_of, by_names, entry_of, unchanged, names_of, id_in, note_table, notes_table}
use Rattle.notes.specs.Compacting.{note_of, notes_for, entries_of, compact_table}
use Rattle.notes.specs.Wholeness.{Fitting, AllFit}
use Rattle.notes.proofs.Places.{in_at, every_at, is_known_lem}
use Rattle.notes.proofs.Entries.{entry-none, entry_known, entry-fits}
use Rattle.notes.proofs.Noting.{records-none, note_names}
use Rattle.notes.proofs.Weights.{Within, no_more, within_new}

-- What an entry says is within the limits ----------------------------------------------------------------------------------

-- a note within the limits, all of whose names are in K
pub record Sound (K : List (List ℕ)) (n : Note) : Type 0 where
  pub named : every is_name (names_of n) ≡ true
  pub few : length n.says.inputs ≤ 64
  pub timed : n.says.mtime < 2 ^ 64
  pub inside : every (λ y. is_in y K) (names_of n) ≡ true

-- some name
abbrev named : List ℕ
named = 1 ∷ []

module _ (t : Table) (k : Kept t) where
  pub name_sound : (id : ℕ) → id < length t.names → (is_name (name_of t id) ≡ true) × (is_in (name_of t id) t.names ≡ true)
  name_sound id h =
      (ap is_name (get_or_default t.names id [] named h) ∙ every_at is_name t.names named id k.named refl, in_at t.names id h)

  names_sound : (ids : List ℕ) → every (λ id. ltb id (length t.names)) ids ≡ true →
      (every is_name (map (name_of t) ids) ≡ true) × (every (λ y. is_in y t.names) (map (name_of t) ids) ≡ true)
  names_sound [] e = (refl, refl)
  names_sound (i ∷ ids) e =
      let q = and_parts (ltb i (length t.names)) (every (λ id. ltb id (length t.names)) ids) e in
      let h = name_sound i (ltb-true i (length t.names) q.0) in
      let r = names_sound ids q.1 in
      (and_from (is_name (name_of t i)) _ h.0 r.0, and_from (is_in (name_of t i) t.names) _ h.1 r.1)

  by_sound : (o : List ℕ) (x : Option Entry) (s : Says) → is_name o ≡ true → is_in o t.names ≡ true → fits_entry (length t.names) x ≡ true → by_names t x ≡ Some s →
      Sound t.names (record { output = o; says = s })
  by_sound o None s a b f e = absurd (let z : ◌≡◌ {A = ℕ} 0 1 = cc in omega arith)
  by_sound o (Some x) s a b f e =
      let p = and_parts (ltb x.mtime (2 ^ 64) && leb (length x.inputs) 64) (every (λ id. ltb id (length t.names)) x.inputs) f in
      let q = and_parts (ltb x.mtime (2 ^ 64)) (leb (length x.inputs) 64) p.0 in
      let r = names_sound x.inputs p.1 in
      let s' : Says = record { mtime = x.mtime; inputs = map (name_of t) x.inputs } in
      let z : s' ≡ s = cc in
      subst (λ (y : Says). Sound t.names (record { output = o; says = y })) z (record {
        named = and_from (is_name o) _ a r.0;
        few = omega (arith, length-map x.inputs (name_of t), leb-true (length x.inputs) 64 q.1);
        timed = ltb-true x.mtime (2 ^ 64) q.0;
        inside = and_from (is_in o t.names) _ b r.1;
      })

  pub entry_sound : (o : List ℕ) (s : Says) → entry_of t o ≡ Some s → Sound t.names (record { output = o; says = s })
  entry_sound o s e =
      elim (cases_Bool (is_in o t.names)) [
        | inl b ↦
            let q = is_known_lem t.names o b in
            let id : ℕ = id_in t.names o in
            by_sound o (get_or t.entries id None) s (ap is_name (sym q.holds) ∙ (name_sound id q.within).0) b (entry-fits t id k) (sym (entry_known t o b) ∙ e)
        | inr b ↦ absurd (let n : None ≡ Some s = sym (entry-none t o b) ∙ e in let z : ◌≡◌ {A = ℕ} 0 1 = cc in omega arith)
      ]

-- Notes of entries ---------------------------------------------------------------------------------------------------------

abbrev pub Each : (Note → Type 0) → List Note → Type 0
Each P [] = Unit {0}
Each P (n ∷ ns) = P n × Each P ns

each_on : (P : Note → Type 0) (o : List ℕ) (x : Option Says) (rest : List Note) → ((s : Says) → x ≡ Some s → P (record { output = o; says = s })) → Each P rest → Each P (note_of o x ++ rest)
each_on P o None rest f r = r
each_on P o (Some s) rest f r = (f s refl, r)

-- what holds of each entry holds of each note made of one
pub each_for : (P : Note → Type 0) (t : Table) (names : List (List ℕ)) → ((o : List ℕ) (s : Says) → entry_of t o ≡ Some s → P (record { output = o; says = s })) → Each P (notes_for t names)
each_for P t [] f = tt
each_for P t (n ∷ ns) f = each_on P n (entry_of t n) (notes_for t ns) (f n) (each_for P t ns f)

abbrev pub Inside : List (List ℕ) → Note → Type 0
Inside K n = every (λ y. is_in y K) (names_of n) ≡ true

-- notes over the names of K know no others
note_within : (K : List (List ℕ)) (u : Table) (n : Note) → Within K u.names → Inside K n → Within K (note_table u n).names
note_within K u n w i =
    elim (cases_Bool (unchanged u n)) [
      | inl e ↦ subst (λ (rs : List Record). Within K (learn_all u rs).names) (sym (records-none u n e)) w
      | inr e ↦ subst (Within K) (sym (note_names u n e)) (within_new K u.names (names_of n) w i)
    ]

pub notes_within : (K : List (List ℕ)) (u : Table) (ns : List Note) → Within K u.names → Each (Inside K) ns → Within K (notes_table u ns).names
notes_within K u [] w i = w
notes_within K u (n ∷ ns) w i = notes_within K (note_table u n) ns (note_within K u n w i.0) i.1

-- and are within the limits, where K is
all_fit : (K : List (List ℕ)) → length K ≤ 256 → (u : Table) (ns : List Note) → Within K u.names → Each (Sound K) ns → AllFit u ns
all_fit K b u [] w g = tt
all_fit K b u (n ∷ ns) w g =
    let s = g.0 in
    let v = note_within K u n w s.inside in
    let f : Fitting u n = record { named = s.named; few = s.few; timed = s.timed; room = omega (arith, no_more K (note_table u n).names v) } in
    (f, all_fit K b (note_table u n) ns v g.1)

pub compact_fits : (t : Table) → Kept t → AllFit bare (entries_of t)
compact_fits t k = all_fit t.names k.few bare (entries_of t) (refl, refl) (each_for (Sound t.names) t t.names (entry_sound t k))

-- the names that a recompaction writes are in K, where those of the entries are
pub compact_within : (K : List (List ℕ)) (t : Table) → ((o : List ℕ) (s : Says) → entry_of t o ≡ Some s → Inside K (record { output = o; says = s })) → Within K (compact_table t).names
compact_within K t f = notes_within K bare (entries_of t) (refl, refl) (each_for (Inside K) t t.names f)
