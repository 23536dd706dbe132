-- How many bytes a recompaction has. Assumes nothing.
use Rattle.std.proofs.Common.{◌≡◌, ℕ, ◌+◌, true, false, not, List, [], ◌∷◌, ◌++◌, map, length, Some, None, sum_by, Option, sym, refl, ap, ◌∙◌, inl, inr, arith}
use Rattle.std.specs.Str.{bytes_eq}
use Rattle.std.proofs.lemmas.List.{length-append, length-map}
use Rattle.std.proofs.lemmas.List.Sums.{sum_by-cons, sum_by-append}
use Rattle.std.proofs.lemmas.Bool.{cases_Bool, both_ways, and_parts, or_left, or_right, not-true, cond-false}
use Rattle.terms.specs.Lists.{is_in, ◌▷◌}
use Rattle.image.specs.Bytes.{path, deps, header, word, padded, checksum, record_bytes, records_bytes}
use Rattle.image.specs.Tables.{Table, bare, learn_all}
use Rattle.image.specs.Kept.{distinct, Kept}
use Rattle.image.proofs.Writes.{length-words}
use Rattle.notes.specs.Notes.{Says, Note, entry_of, says_same, unchanged, new_names, names_of, extended, id_in, note_bytes, note_table, notes_bytes, notes_table}
use Rattle.notes.specs.Compacting.{note_of, notes_for, entries_of, compact_bytes, compact_table}
use Rattle.notes.specs.Wholeness.{AllFit}
use Rattle.notes.specs.Laws.{path_length, deps_length, NoteAdds}
use Rattle.notes.proofs.Places.{same-is, same_self}
use Rattle.notes.proofs.Noting.{records-none, records-full, note_names, note_kept, note_entry}
use Rattle.notes.proofs.LatestNoted.{bare-kept}
use Rattle.notes.proofs.Refits.{compact_fits}

-- Lengths ----------------------------------------------------------------------------------------------------------------

abbrev note_size : Note → ℕ
note_size n = deps_length (length n.says.inputs)

abbrev pub entry_size : Option Says → ℕ
entry_size None = 0
entry_size (Some s) = deps_length (length s.inputs)

length-paths : (id : ℕ) (ns : List (List ℕ)) (o m : ℕ) (is : List ℕ) → length (records_bytes id (map path ns ▷ deps o m is)) ≡ sum_by path_length ns + deps_length (length is)
length-paths id [] o m is = omega (arith, length-words is, length-append (record_bytes id (deps o m is)) [])
length-paths id (n ∷ ns) o m is =
    omega (
      arith,
      length-paths (id + 1) ns o m is,
      sum_by-cons path_length n ns,
      length-append (record_bytes id (path n)) (records_bytes (id + 1) (map path ns ▷ deps o m is)),
      length-append (padded n) (word (checksum id)),
    )

pub note_adds : NoteAdds
note_adds t n = record {
  nothing = λ e. (ap (records_bytes (length t.names)) (records-none t n e), ap (learn_all t) (records-none t n e));
  names = note_names t n;
  bytes = λ e.
      let known : List (List ℕ) = extended t.names n in
      ap (λ rs. length (records_bytes (length t.names) rs)) (records-full t n e) ∙
      length-paths (length t.names) (new_names t.names (names_of n)) (id_in known n.output) n.says.mtime (map (id_in known) n.says.inputs) ∙
      ap (λ (k : ℕ). sum_by path_length (new_names t.names (names_of n)) + deps_length k) (length-map n.says.inputs (id_in known));
}

note_length : (u : Table) (n : Note) → unchanged u n ≡ false → length (note_bytes u n) + sum_by path_length u.names ≡ sum_by path_length (note_table u n).names + note_size n
note_length u n e =
    omega (arith, (note_adds u n).bytes e, ap (sum_by path_length) (note_names u n e), sum_by-append path_length u.names (new_names u.names (names_of n)))

-- none of them is unchanged when it is made
abbrev pub AllNew : Table → List Note → Type 0
AllNew u [] = Unit {0}
AllNew u (n ∷ ns) = (unchanged u n ≡ false) × AllNew (note_table u n) ns

notes_length : (u : Table) (ns : List Note) → AllNew u ns → length (notes_bytes u ns) + sum_by path_length u.names ≡ sum_by path_length (notes_table u ns).names + sum_by note_size ns
notes_length u [] w = omega arith
notes_length u (n ∷ ns) w =
    omega (arith, note_length u n w.0, notes_length (note_table u n) ns w.1, length-append (note_bytes u n) (notes_bytes (note_table u n) ns), sum_by-cons note_size n ns)

-- The notes of distinct outputs without entries are new --------------------------------------------------------------------

abbrev pub Unsaid : Table → List (List ℕ) → Type 0
Unsaid u names = (o : List ℕ) → is_in o names ≡ true → entry_of u o ≡ None

module _ (t : Table) where
  new-on : (u : Table) (name : List ℕ) (names : List (List ℕ)) (x : Option Says) → Kept u → is_in name names ≡ false → Unsaid u (name ∷ names) →
      ((v : Table) → Kept v → Unsaid v names → AllFit v (notes_for t names) → AllNew v (notes_for t names)) → AllFit u (note_of name x ++ notes_for t names) → AllNew u (note_of name x ++ notes_for t names)
  new-on u name names None k d h go a = go u k (λ o e. h o (or_right (bytes_eq o name) _ e)) a
  new-on u name names (Some s) k d h go a =
      let n : Note = record { output = name; says = s } in
      let other : (o : List ℕ) → is_in o names ≡ true → bytes_eq o name ≡ false = λ o e.
      elim (cases_Bool (bytes_eq o name)) [
        | inl b ↦ absurd (both_ways (is_in name names) d (ap (λ (m : List ℕ). is_in m names) (sym (same-is o name b)) ∙ e))
        | inr b ↦ b
      ] in (
        ap (says_same s) (h name (or_left (bytes_eq name name) _ (same_self name))),
        go (note_table u n) (note_kept u n k a.0)
            (λ o e. note_entry u n k a.0 o ∙ cond-false (bytes_eq o name) (Some s) (entry_of u o) (other o e) ∙ h o (or_right (bytes_eq o name) _ e)) a.1,
      )

  pub new_for : (u : Table) (names : List (List ℕ)) → Kept u → distinct names ≡ true → Unsaid u names → AllFit u (notes_for t names) → AllNew u (notes_for t names)
  new_for u [] k d h a = tt
  new_for u (n ∷ ns) k d h a =
      let q = and_parts (not (is_in n ns)) (distinct ns) d in
      new-on u n ns (entry_of t n) k (not-true (is_in n ns) q.0) h (λ v kv hv av. new_for v ns kv q.1 hv av) a

  -- The bytes of a recompaction --------------------------------------------------------------------------------------------

  -- the bytes of the deps record of a name
  abbrev pub size_in : List ℕ → ℕ
  size_in o = entry_size (entry_of t o)

  size-on : (name : List ℕ) (x : Option Says) (rest : List Note) → sum_by note_size (note_of name x ++ rest) ≡ entry_size x + sum_by note_size rest
  size-on name None rest = omega arith
  size-on name (Some s) rest = sum_by-cons note_size (record { output = name; says = s }) rest

  size_for : (names : List (List ℕ)) → sum_by note_size (notes_for t names) ≡ sum_by size_in names
  size_for [] = refl
  size_for (n ∷ ns) = omega (arith, size-on n (entry_of t n) (notes_for t ns), size_for ns, sum_by-cons size_in n ns)

  pub compact_length : Kept t → length (compact_bytes t) ≡ 16 + (sum_by path_length (compact_table t).names + sum_by size_in t.names)
  compact_length k =
      let a = notes_length bare (entries_of t) (new_for bare t.names bare-kept k.apart (λ o e. refl) (compact_fits t k)) in
      omega (arith, a, size_for t.names, length-append header (notes_bytes bare (entries_of t)))
