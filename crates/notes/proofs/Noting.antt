-- The records of a note are writable, and set its output's entry. Assumes nothing.
use Rattle.std.proofs.Common.{◌≡◌, ℕ, ◌<◌, ◌≤◌, true, false, cond, eqb, List, [], ◌∷◌, ◌++◌, map, length, take, drop, Some, None, Option, sym, refl, ap, ◌∙◌, subst, inl, inr, arith}
use Rattle.std.specs.Str.{bytes_eq}
use Rattle.std.proofs.lemmas.List.{length-append, length-map, length_push, append_assoc, append-nil, take-append-le, take-append-drop, take-map}
use Rattle.std.proofs.lemmas.Bool.{false≢true, cases_Bool, and_parts, and_from, eqb-true, cond-true, cond-false}
use Rattle.terms.specs.Lists.{every, is_in, ◌▷◌}
use Rattle.terms.specs.Names.{is_name}
use Rattle.image.specs.Bytes.{Record, path}
use Rattle.image.specs.Tables.{Table, learn, learn_all}
use Rattle.image.specs.Kept.{Kept}
use Rattle.image.specs.Laws.{Writable, AllWritable}
use Rattle.notes.specs.Notes.{Says, Note, name_of, entry_of, same_names, says_same, unchanged, unknown, new_names, names_of, extended, id_in, deps_of, note_records, note_table}
use Rattle.notes.specs.Latest.{say_now}
use Rattle.notes.specs.Wholeness.{Fitting}
use Rattle.notes.proofs.Places.{same-is, same_names_lem, in_left, in_middle, is_known_lem, ids-below}
use Rattle.notes.proofs.Keeping.{learn_all-kept, front_writable}
use Rattle.notes.proofs.Entries.{paths-same, set-entry}

-- New names --------------------------------------------------------------------------------------------------------------

pub new-known : (names : List (List ℕ)) (x : List ℕ) (xs : List (List ℕ)) → is_in x names ≡ true → new_names names (x ∷ xs) ≡ new_names names xs
new-known names x xs e =
    let u : unknown names x ≡ [] = cond-true (is_in x names) [] (x ∷ []) e in
    ap (λ (us : List (List ℕ)). us ++ new_names (names ++ us) xs) u ∙ ap (λ (ns : List (List ℕ)). new_names ns xs) (append-nil names)

pub new-unknown : (names : List (List ℕ)) (x : List ℕ) (xs : List (List ℕ)) → is_in x names ≡ false → new_names names (x ∷ xs) ≡ x ∷ new_names (names ▷ x) xs
new-unknown names x xs e =
    ap (λ (us : List (List ℕ)). us ++ new_names (names ++ us) xs) (cond-false (is_in x names) [] (x ∷ []) e)

-- all of them are known then
pub all_in : (names xs : List (List ℕ)) → every (λ x. is_in x (names ++ new_names names xs)) xs ≡ true
all_in names [] = refl
all_in names (x ∷ xs) =
    let P : List (List ℕ) → Type 0 = λ ns. every (λ y. is_in y (names ++ ns)) (x ∷ xs) ≡ true in
    elim (cases_Bool (is_in x names)) [
      | inl e ↦ subst P (sym (new-known names x xs e)) (and_from (is_in x (names ++ new_names names xs)) _ (in_left x names (new_names names xs) e) (all_in names xs))
      | inr e ↦
          let more : List (List ℕ) = new_names (names ▷ x) xs in
          let Q : List (List ℕ) → Type 0 = λ ms. every (λ y. is_in y ms) xs ≡ true in
          subst P (sym (new-unknown names x xs e))
          (and_from (is_in x (names ++ (x ∷ more))) _ (in_middle x names more) (subst Q (append_assoc names (x ∷ []) more) (all_in (names ▷ x) xs)))
    ]

-- Records ----------------------------------------------------------------------------------------------------------------

paths_writable : (t : Table) (xs : List (List ℕ)) (d : Record) → every is_name xs ≡ true → length (t.names ++ new_names t.names xs) ≤ 256 →
    Writable (t.names ++ new_names t.names xs) d → AllWritable t (map path (new_names t.names xs) ▷ d)
paths_writable t [] d e l w = (subst (λ (ns : List (List ℕ)). Writable ns d) (append-nil t.names) w, tt)
paths_writable t (x ∷ xs) d e l w =
    let q = and_parts (is_name x) (every is_name xs) e in
    let P : List (List ℕ) → Type 0 = λ ns. AllWritable t (map path ns ▷ d) in
    let W : List (List ℕ) → Type 0 = λ ns. Writable (t.names ++ ns) d in
    let L : List (List ℕ) → Type 0 = λ ns. length (t.names ++ ns) ≤ 256 in
    elim (cases_Bool (is_in x t.names)) [
      | inl b ↦ let f = new-known t.names x xs b in subst P (sym f) (paths_writable t xs d q.1 (subst L f l) (subst W f w))
      | inr b ↦
          let f = new-unknown t.names x xs b in
          let more : List (List ℕ) = new_names (t.names ▷ x) xs in
          let a : (t.names ▷ x) ++ more ≡ t.names ++ (x ∷ more) = append_assoc t.names (x ∷ []) more in
          let m : length (t.names ++ (x ∷ more)) ≤ 256 = subst L f l in
          subst P (sym f) (
            (q.0, b, omega (arith, m, length-append t.names (x ∷ more))),
            paths_writable (learn t (path x)) xs d q.1 (omega (arith, m, ap length a))
                (subst (λ (ns : List (List ℕ)). Writable ns d) (sym a) (subst W f w)),
          )
    ]

pub paths-names : (t : Table) (ns : List (List ℕ)) → (learn_all t (map path ns)).names ≡ t.names ++ ns
paths-names t [] = sym (append-nil t.names)
paths-names t (n ∷ ns) = paths-names (learn t (path n)) ns ∙ append_assoc t.names (n ∷ []) ns

learn_all_push : (t : Table) (rs : List Record) (r : Record) → learn_all t (rs ▷ r) ≡ learn (learn_all t rs) r
learn_all_push t [] r = refl
learn_all_push t (x ∷ rs) r = learn_all_push (learn t x) rs r

says_is : (s : Says) (x : Option Says) → says_same s x ≡ true → x ≡ Some s
says_is s None e = absurd (false≢true e)
says_is s (Some x) e =
    let q = and_parts (eqb s.mtime x.mtime) (same_names s.inputs x.inputs) e in
    ap (λ (m : ℕ). Some (record { mtime = m; inputs = x.inputs })) (sym (eqb-true s.mtime x.mtime q.0)) ∙
    ap (λ (is : List (List ℕ)). Some (record { mtime = s.mtime; inputs = is })) (sym (same_names_lem s.inputs x.inputs q.1))

names-back : (t : Table) (xs : List (List ℕ)) → every (λ x. is_in x t.names) xs ≡ true → map (name_of t) (map (id_in t.names) xs) ≡ xs
names-back t [] e = refl
names-back t (x ∷ xs) e =
    let q = and_parts (is_in x t.names) (every (λ y. is_in y t.names) xs) e in
    let h : name_of t (id_in t.names x) ≡ x = (is_known_lem t.names x q.0).holds in
    let r = names-back t xs q.1 in cc

-- A note -----------------------------------------------------------------------------------------------------------------

module _ (t : Table) (n : Note) where
  abbrev pub paths : List Record
  paths = map path (new_names t.names (names_of n))

  -- what is known once the paths are
  abbrev pub named : Table
  named = learn_all t paths

  pub records-none : unchanged t n ≡ true → note_records t n ≡ []
  records-none e = cond-true (unchanged t n) [] _ e

  pub records-full : unchanged t n ≡ false → note_records t n ≡ paths ▷ deps_of (extended t.names n) n
  records-full e = cond-false (unchanged t n) [] _ e

  pub named-names : named.names ≡ extended t.names n
  named-names = paths-names t (new_names t.names (names_of n))

  pub table-full : unchanged t n ≡ false → note_table t n ≡ learn named (deps_of named.names n)
  table-full e =
      ap (learn_all t) (records-full e) ∙ learn_all_push t paths (deps_of (extended t.names n) n) ∙ ap (λ (ns : List (List ℕ)). learn named (deps_of ns n)) (sym named-names)

  pub note_names : unchanged t n ≡ false → (note_table t n).names ≡ extended t.names n
  note_names e = ap (λ (u : Table). u.names) (table-full e) ∙ named-names

  full_writable : unchanged t n ≡ false → Fitting t n → AllWritable t (paths ▷ deps_of (extended t.names n) n)
  full_writable e f =
      let known : List (List ℕ) = extended t.names n in
      let l : length known ≤ 256 = omega (arith, ap length (note_names e), f.room) in
      paths_writable t (names_of n) (deps_of known n) f.named l
      (ids-below known (names_of n) (all_in t.names (names_of n)), f.timed, omega (arith, length-map n.says.inputs (id_in known), f.few), l)

  pub note_writable : Fitting t n → AllWritable t (note_records t n)
  note_writable f =
      elim (cases_Bool (unchanged t n)) [
        | inl e ↦ subst (AllWritable t) (sym (records-none e)) tt
        | inr e ↦ subst (AllWritable t) (sym (records-full e)) (full_writable e f)
      ]

  -- a part of a note's records has no deps record
  pub part_same : Kept t → Fitting t n → (j : ℕ) → j < length (note_records t n) → (output : List ℕ) → entry_of (learn_all t (take j (note_records t n))) output ≡ entry_of t output
  part_same k f j h output =
      elim (cases_Bool (unchanged t n)) [
        | inl e ↦ absurd (omega (arith, ap length (records-none e)))
        | inr e ↦
            let new : List (List ℕ) = new_names t.names (names_of n) in
            let d : Record = deps_of (extended t.names n) n in
            let g : take j (note_records t n) ≡ map path (take j new) =
            ap (take j) (records-full e) ∙ take-append-le j paths (d ∷ []) (omega (arith, length_push paths d, ap length (records-full e))) ∙ take-map path j new in
            let w : AllWritable t (map path (take j new)) =
            subst (AllWritable t) g (front_writable t (take j (note_records t n)) (drop j (note_records t n)) (subst (AllWritable t) (sym (take-append-drop j (note_records t n))) (note_writable f))) in
            ap (λ (rs : List Record). entry_of (learn_all t rs) output) g ∙ paths-same t (take j new) k w output
      ]

  pub note_kept : Kept t → Fitting t n → Kept (note_table t n)
  note_kept k f = learn_all-kept t (note_records t n) k (note_writable f)

  -- its output's entry says what it says, and the others stay
  pub note_entry : Kept t → Fitting t n → (output : List ℕ) → entry_of (note_table t n) output ≡ say_now (entry_of t output) output n
  note_entry k f output =
      elim (cases_Bool (unchanged t n)) [
        | inl e ↦
            ap (λ (u : Table). entry_of u output) (ap (learn_all t) (records-none e)) ∙
            elim (cases_Bool (bytes_eq output n.output)) [
              | inl s ↦ ap (entry_of t) (same-is output n.output s) ∙ says_is n.says (entry_of t n.output) e ∙ sym (cond-true (bytes_eq output n.output) (Some n.says) (entry_of t output) s)
              | inr s ↦ sym (cond-false (bytes_eq output n.output) (Some n.says) (entry_of t output) s)
            ]
        | inr e ↦
            let w : AllWritable t paths = front_writable t paths (deps_of (extended t.names n) n ∷ []) (full_writable e f) in
            let a : every (λ x. is_in x named.names) (names_of n) ≡ true =
            ap (λ (ns : List (List ℕ)). every (λ x. is_in x ns) (names_of n)) named-names ∙ all_in t.names (names_of n) in
            let q = and_parts (is_in n.output named.names) (every (λ x. is_in x named.names) n.says.inputs) a in
            ap (λ (u : Table). entry_of u output) (table-full e) ∙
            set-entry named (learn_all-kept t paths k w) n.output n.says.mtime (map (id_in named.names) n.says.inputs) q.0 output ∙
            ap (λ (is : List (List ℕ)). cond (bytes_eq output n.output) (Some (record { mtime = n.says.mtime; inputs = is })) (entry_of named output)) (names-back named n.says.inputs q.1) ∙
            ap (λ (x : Option Says). say_now x output n) (paths-same t (new_names t.names (names_of n)) k w output)
      ]
