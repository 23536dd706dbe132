-- That what is added to a table for a note is what the note writes and tells. Assumes nothing.
use Rattle.std.proofs.Common.{◌≡◌, ℕ, ◌+◌, ◌<◌, ◌≤◌, Bool, true, false, cond, ltb, List, [], ◌∷◌, ◌++◌, map, length, get_or, take, sym, refl, ap, ◌∙◌, subst}
use Rattle.std.proofs.lemmas.List.{append-nil, append_assoc, map_push, length-map, length-take-le, take_more, take_all}
use Rattle.std.proofs.lemmas.Bool.{lt-ltb, cond-true}
use Rattle.terms.specs.Lists.{every, is_in, ◌▷◌}
use Rattle.image.specs.Bytes.{path, deps, record_bytes}
use Rattle.image.specs.Tables.{Entry, Table, learn_all}
use Rattle.image.specs.Laws.{AllWritable}
use Rattle.image.specs.Learning.{deps_learned}
use Rattle.image.specs.View.{entry_of}
use Rattle.notes.specs.Notes.{Note, unchanged, unknown, new_names, names_of, id_in, note_bytes, note_table}
use Rattle.notes.specs.Wholeness.{Fitting}
use Rattle.depslog.specs.declared.added.Added.{Added}
use Rattle.depslog.specs.Adding.{names_added, bytes_added, learned_added, Adds, AddsMore}
use Rattle.depslog.specs.Drafting.{paths_bytes}
use Rattle.notes.proofs.Noting.{all_in}
use Rattle.depslog.proofs.Freshly.{taken_more}
use Rattle.depslog.proofs.Noted.{bytes_are, learned-all, paths-fit}

-- the records that are appended are those of the note
pub written-bytes : (t : Table) (n : Note) (first id : ℕ) (fresh : List (List ℕ)) (e : Entry) → unchanged t n ≡ false → first ≡ length t.names → fresh ≡ new_names t.names (names_of n) →
    id ≡ id_in (t.names ++ fresh) n.output → e ≡ record { mtime = n.says.mtime; inputs = map (id_in (t.names ++ fresh)) n.says.inputs } →
    paths_bytes first fresh ++ record_bytes 0 (deps id e.mtime e.inputs) ≡ note_bytes t n
written-bytes t n first id fresh e new f g h k =
    let W : ℕ → List (List ℕ) → ℕ → Entry → List ℕ = λ a ns i x. paths_bytes a ns ++ record_bytes 0 (deps i x.mtime x.inputs) in
    let E : List (List ℕ) → Entry = λ ns. record { mtime = n.says.mtime; inputs = map (id_in (t.names ++ ns)) n.says.inputs } in
    ap (λ (a : ℕ). W a fresh id e) f ∙ ap (λ (i : ℕ). W (length t.names) fresh i e) h ∙ ap (λ (x : Entry). W (length t.names) fresh (id_in (t.names ++ fresh) n.output) x) k ∙
    ap (λ (ns : List (List ℕ)). W (length t.names) ns (id_in (t.names ++ ns) n.output) (E ns)) g ∙ sym (bytes_are t n new)

-- and the table that is left is what is known then
pub learned_then : (t v u : Table) (n : Note) (id : ℕ) (fresh : List (List ℕ)) (e : Entry) (r : Bool) → unchanged t n ≡ false → v ≡ learn_all t (map path fresh) → fresh ≡ new_names t.names (names_of n) →
    id ≡ id_in (t.names ++ fresh) n.output → e ≡ record { mtime = n.says.mtime; inputs = map (id_in (t.names ++ fresh)) n.says.inputs } → (r, u) ≡ deps_learned v id e → u ≡ note_table t n
learned_then t v u n id fresh e r new f g h k l =
    let E : List (List ℕ) → Entry = λ ns. record { mtime = n.says.mtime; inputs = map (id_in (t.names ++ ns)) n.says.inputs } in
    learned-all t n new r u (
    l ∙ ap (λ (x : Table). deps_learned x id e) f ∙ ap (λ (i : ℕ). deps_learned (learn_all t (map path fresh)) i e) h ∙
    ap (deps_learned (learn_all t (map path fresh)) (id_in (t.names ++ fresh) n.output)) k ∙
    ap (λ (ns : List (List ℕ)). deps_learned (learn_all t (map path ns)) (id_in (t.names ++ ns) n.output) (E ns)) g
    )

module _ (t : Table) (n : Note) (a : Added) (d : Adds t n a) (new : unchanged t n ≡ false) where
  pub bytes_same : bytes_added a ≡ note_bytes t n
  bytes_same = written-bytes t n a.first a.output (names_added a) (entry_of a.entry) new d.first d.names d.output d.entry

  pub learned_same : learned_added a t ≡ note_table t n
  learned_same =
      learned_then t (learn_all t (map path (names_added a))) (learned_added a t) n a.output (names_added a) (entry_of a.entry) (deps_learned (learn_all t (map path (names_added a))) a.output (entry_of a.entry)).0 new
      refl d.names d.output d.entry refl

  pub may_learn : Fitting t n → AllWritable t (map path (names_added a))
  may_learn f = subst (λ (ns : List (List ℕ)). AllWritable t (map path ns)) (sym d.names) (paths-fit t n new f)

-- A note, input by input -----------------------------------------------------------------------------------------------------

-- one name more
pub names_more : (known ns : List (List ℕ)) (x : List ℕ) → new_names known (ns ▷ x) ≡ new_names known ns ++ unknown (known ++ new_names known ns) x
names_more known [] x = append-nil (unknown known x) ∙ ap (λ (ks : List (List ℕ)). unknown ks x) (sym (append-nil known))
names_more known (n ∷ ns) x =
    let u = unknown known n in
    let rest = new_names (known ++ u) ns in
    ap (λ (xs : List (List ℕ)). u ++ xs) (names_more (known ++ u) ns x) ∙ sym (append_assoc u rest (unknown ((known ++ u) ++ rest) x)) ∙
    ap (λ (ks : List (List ℕ)). (u ++ rest) ++ unknown ks x) (append_assoc known u rest)

-- an entry takes one id more, and those before are the same by other names
one_more : (m : ℕ) (f g : List ℕ → ℕ) (ns : List (List ℕ)) (n : List ℕ) (id : ℕ) (e x : Entry) → length e.inputs < 64 →
    x ≡ cond (ltb (length e.inputs) 64) (record { mtime = e.mtime; inputs = e.inputs ▷ id }) e → e ≡ record { mtime = m; inputs = map f ns } → map g ns ≡ map f ns → id ≡ g n →
    x ≡ record { mtime = m; inputs = map g (ns ▷ n) }
one_more m f g ns n id e x h p i s d =
    let E : List ℕ → Entry = λ is. record { mtime = m; inputs = is } in
    let more : Entry = record { mtime = e.mtime; inputs = e.inputs ▷ id } in
    p ∙ cond-true (ltb (length e.inputs) 64) more e (lt-ltb (length e.inputs) 64 h) ∙ ap (λ (y : Entry). record { mtime = y.mtime; inputs = y.inputs ▷ id }) i ∙
    ap (λ (is : List ℕ). E (is ▷ id)) (sym s) ∙ ap (λ (j : ℕ). E (map g ns ▷ j)) d ∙ ap E (sym (map_push g ns n))

-- what a note with one input more adds
pub adds_more : (t : Table) (x : List ℕ) (a b : Added) → b.first ≡ a.first → b.output ≡ a.output → names_added b ≡ names_added a ++ unknown (t.names ++ names_added a) x →
    (id : ℕ) → id ≡ id_in (t.names ++ names_added b) x → length (entry_of a.entry).inputs < 64 →
    entry_of b.entry ≡ cond (ltb (length (entry_of a.entry).inputs) 64) (record { mtime = (entry_of a.entry).mtime; inputs = (entry_of a.entry).inputs ▷ id }) (entry_of a.entry) → AddsMore t x a b
adds_more t x a b f o names id i h e n d =
    let known = t.names in
    let was = names_added a in
    let after = names_added b in
    let among : every (λ y. is_in y (known ++ was)) (names_of n) ≡ true = ap (λ (ns : List (List ℕ)). every (λ y. is_in y (known ++ ns)) (names_of n)) d.names ∙ all_in known (names_of n) in
    let q = taken_more known was after (names_of n) x names among in
    let both : id_in (known ++ after) n.output ∷ map (id_in (known ++ after)) n.says.inputs ≡ id_in (known ++ was) n.output ∷ map (id_in (known ++ was)) n.says.inputs = q.1 in
    let first : id_in (known ++ after) n.output ≡ id_in (known ++ was) n.output = cc in
    let others : map (id_in (known ++ after)) n.says.inputs ≡ map (id_in (known ++ was)) n.says.inputs = cc in
    record {
      first = f ∙ d.first;
      names = names ∙ ap (λ (ns : List (List ℕ)). ns ++ unknown (known ++ ns) x) d.names ∙ sym (names_more known (names_of n) x);
      output = o ∙ d.output ∙ sym first;
      entry = one_more n.says.mtime (id_in (known ++ was)) (id_in (known ++ after)) n.says.inputs x id (entry_of a.entry) (entry_of b.entry) h e d.entry others i;
    }

-- a note by its parts
abbrev pub noted : List ℕ → ℕ → List (List ℕ) → Note
noted o m ns = record { output = o; says = record { mtime = m; inputs = ns } }

module _ {A : Type 0} (t : Table) (o : List ℕ) (m : ℕ) (f : A → List ℕ) (xs : List A) (k : ℕ) where
  -- as many inputs have ids as there are so far
  pub inputs_so_far : (a : Added) → k ≤ length xs → Adds t (noted o m (map f (take k xs))) a → length (entry_of a.entry).inputs ≡ k
  inputs_so_far a h d =
      ap (λ (e : Entry). length e.inputs) d.entry ∙ length-map (map f (take k xs)) (id_in (t.names ++ names_added a)) ∙ length-map (take k xs) f ∙ length-take-le k xs h

  -- the next one
  pub next_input : (d : A) (x : List ℕ) (a b : Added) → k < length xs → x ≡ f (get_or xs k d) → AddsMore t x a b → Adds t (noted o m (map f (take k xs))) a → Adds t (noted o m (map f (take (k + 1) xs))) b
  next_input d x a b h e more i =
      let q : map f (take (k + 1) xs) ≡ map f (take k xs) ▷ x = ap (map f) (take_more xs k d h) ∙ map_push f (take k xs) (get_or xs k d) ∙ ap (λ (y : List ℕ). map f (take k xs) ▷ y) (sym e) in
      subst (λ (ns : List (List ℕ)). Adds t (noted o m ns) b) (sym q) (more (noted o m (map f (take k xs))) i)

  -- and with none left, all of them
  pub all_inputs : (a : Added) → length xs ≤ k → Adds t (noted o m (map f (take k xs))) a → Adds t (noted o m (map f xs)) a
  all_inputs a h i = subst (λ (ys : List A). Adds t (noted o m (map f ys)) a) (take_all k xs h) i
