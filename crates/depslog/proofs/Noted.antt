-- What a note writes and teaches, and what its checks say. Assumes nothing.
use Rattle.std.proofs.Common.{◌≡◌, ℕ, ◌+◌, Bool, true, false, cond, not, List, [], ◌∷◌, ◌++◌, map, length, Some, None, Ok, Err, Option, sym, refl, ap, ◌∙◌, subst, inl, inr, arith}
use Rattle.std.proofs.lemmas.List.{append_assoc, append-nil}
use Rattle.std.proofs.lemmas.Bool.{cases_Bool, and_parts, and_from, cond-true}
use Rattle.terms.specs.declared.Place.{Place}
use Rattle.terms.specs.declared.Refusal.{Refusal}
use Rattle.terms.specs.declared.Refusal.TheVariants.{Outside, NotName}
use Rattle.terms.specs.Lists.{every, is_in, ◌▷◌}
use Rattle.terms.specs.Names.{is_name}
use Rattle.image.specs.Bytes.{path, deps, record_bytes, records_bytes}
use Rattle.image.specs.Reading.{is_known}
use Rattle.image.specs.Tables.{Entry, Table, learn}
use Rattle.image.specs.Laws.{AllWritable}
use Rattle.image.specs.Learning.{takes_deps, deps_learned}
use Rattle.notes.specs.Notes.{Note, unchanged, new_names, names_of, extended, id_in, deps_of, note_bytes, note_table}
use Rattle.notes.specs.Wholeness.{Fitting}
use Rattle.terms.specs.Places.{at_place}
use Rattle.notes.proofs.Noting.{new-known, new-unknown, all_in, records-full, named, named-names, table-full, note_writable}
use Rattle.notes.proofs.Places.{ids-below}
use Rattle.notes.proofs.Keeping.{front_writable}
use Rattle.depslog.specs.Noting.{outside, name_fault}
use Rattle.depslog.proofs.Cuts.{Checked}
use Rattle.depslog.specs.Drafting.{paths_bytes}

-- What is written ------------------------------------------------------------------------------------------------------------

paths-deps : (id : ℕ) (ns : List (List ℕ)) (output mtime : ℕ) (inputs : List ℕ) → records_bytes id (map path ns ▷ deps output mtime inputs) ≡ paths_bytes id ns ++ record_bytes 0 (deps output mtime inputs)
paths-deps id [] output mtime inputs = append-nil (record_bytes 0 (deps output mtime inputs))
paths-deps id (n ∷ ns) output mtime inputs =
    ap (λ (xs : List ℕ). record_bytes id (path n) ++ xs) (paths-deps (id + 1) ns output mtime inputs) ∙ sym (append_assoc (record_bytes id (path n)) (paths_bytes (id + 1) ns) (record_bytes 0 (deps output mtime inputs)))

-- new names are names
pub new-named : (known xs : List (List ℕ)) → every is_name xs ≡ true → every is_name (new_names known xs) ≡ true
new-named known [] e = refl
new-named known (x ∷ xs) e =
    let q = and_parts (is_name x) (every is_name xs) e in
    elim (cases_Bool (is_in x known)) [
      | inl k ↦ ap (every is_name) (new-known known x xs k) ∙ new-named known xs q.1
      | inr k ↦ ap (every is_name) (new-unknown known x xs k) ∙ and_from (is_name x) (every is_name (new_names (known ▷ x) xs)) q.0 (new-named (known ▷ x) xs q.1)
    ]

module _ (t : Table) (n : Note) (new : unchanged t n ≡ false) where
  abbrev known : List (List ℕ)
  known = extended t.names n

  pub bytes_are : note_bytes t n ≡ paths_bytes (length t.names) (new_names t.names (names_of n)) ++ record_bytes 0 (deps_of known n)
  bytes_are =
      ap (records_bytes (length t.names)) (records-full t n new) ∙
      paths-deps (length t.names) (new_names t.names (names_of n)) (id_in known n.output) n.says.mtime (map (id_in known) n.says.inputs)

  pub paths-fit : Fitting t n → AllWritable t (map path (new_names t.names (names_of n)))
  paths-fit f = front_writable t (map path (new_names t.names (names_of n))) (deps_of known n ∷ []) (subst (AllWritable t) (records-full t n new) (note_writable t n f))

  -- the table that has learned the new names takes the entry
  pub learned-all : (r : Bool) (u : Table) → (r, u) ≡ deps_learned (named t n) (id_in known n.output) (record { mtime = n.says.mtime; inputs = map (id_in known) n.says.inputs }) →
      u ≡ note_table t n
  learned-all r u e =
      let x : Entry = record { mtime = n.says.mtime; inputs = map (id_in known) n.says.inputs } in
      let id = id_in known n.output in
      let k : takes_deps (named t n) id x ≡ true = ap (λ (ns : List (List ℕ)). every (is_known ns) (map (id_in known) (names_of n))) (named-names t n) ∙ ids-below known (names_of n) (all_in t.names (names_of n)) in
      ap (λ (p : Bool × Table). p.1) (e ∙ cond-true (takes_deps (named t n) id x) (true, learn (named t n) (deps_of known n)) (false, named t n) k) ∙
      ap (λ (ns : List (List ℕ)). learn (named t n) (deps_of ns n)) (sym (named-names t n)) ∙ sym (table-full t n new)

-- What the checks say --------------------------------------------------------------------------------------------------------

never : (f : Refusal) → Err f ≡ Checked None → ⊥
never f e = let z : ◌≡◌ {A = ℕ} 0 1 = cc in omega arith

same-fault : (f x : Refusal) → Err f ≡ Checked (Some x) → Some x ≡ Some f
same-fault f x e = let q : x ≡ f = cc in ap (λ (y : Refusal). Some y) q

bad-behind : (a b : Bool) (x y f : Refusal) (r o : Option Refusal) → (Err f ≡ Checked r → o ≡ Some f) → Err f ≡ Checked (cond a (Some x) (cond b (Some y) r)) → cond a (Some x) (cond b (Some y) o) ≡ Some f
bad-behind true b x y f r o h e = same-fault f x e
bad-behind false true x y f r o h e = same-fault f y e
bad-behind false false x y f r o h e = h e

-- a fault among the names is the same, whatever follows
pub names-bad : (bytes : List ℕ) (i : ℕ) (ps : List Place) (f : Refusal) (o : Option Refusal) → Err f ≡ Checked (name_fault bytes i ps None) → name_fault bytes i ps o ≡ Some f
names-bad bytes i [] f o e = absurd (never f e)
names-bad bytes i (p ∷ ps) f o e =
    bad-behind (outside bytes p) (not (is_name (at_place bytes p))) (Outside i) (NotName i) f (name_fault bytes (i + 1) ps None) (name_fault bytes (i + 1) ps o) (names-bad bytes (i + 1) ps f o) e

-- two checks and what follows them: where there is no fault, neither check failed
record Behind (a b : Bool) (x y : Refusal) (r o : Option Refusal) : Type 0 where
  named : b ≡ true
  rest : Ok tt ≡ Checked r
  left : cond a (Some x) (cond (not b) (Some y) o) ≡ o

good-behind : (a b : Bool) (x y : Refusal) (r o : Option Refusal) → Ok tt ≡ Checked (cond a (Some x) (cond (not b) (Some y) r)) → Behind a b x y r o
good-behind true b x y r o e = absurd (never x (sym e))
good-behind false false x y r o e = absurd (never y (sym e))
good-behind false true x y r o e = record { named = refl; rest = e; left = refl }

-- and where there is none, all are names, and only what follows is left
pub names-good : (bytes : List ℕ) (i : ℕ) (ps : List Place) (o : Option Refusal) → Ok tt ≡ Checked (name_fault bytes i ps None) → (every is_name (map (at_place bytes) ps) ≡ true) × (name_fault bytes i ps o ≡ o)
names-good bytes i [] o e = (refl, refl)
names-good bytes i (p ∷ ps) o e =
    let q = good-behind (outside bytes p) (is_name (at_place bytes p)) (Outside i) (NotName i) (name_fault bytes (i + 1) ps None) (name_fault bytes (i + 1) ps o) e in
    let r = names-good bytes (i + 1) ps o q.rest in
    (and_from (is_name (at_place bytes p)) (every is_name (map (at_place bytes) ps)) q.named r.0, q.left ∙ r.1)
