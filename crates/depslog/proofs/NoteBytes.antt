-- What a note writes, the output's path record apart from those of the inputs. Assumes nothing.
use Rattle.std.proofs.Common.{◌≡◌, ℕ, false, List, ◌∷◌, ◌++◌, map, length, sym, ap, ◌∙◌}
use Rattle.std.proofs.lemmas.List.{append_assoc, length-append}
use Rattle.image.specs.Bytes.{deps, record_bytes}
use Rattle.image.specs.Tables.{Table}
use Rattle.notes.specs.Notes.{Note, unchanged, unknown, new_names, names_of, extended, id_in, note_bytes}
use Rattle.notes.proofs.Noting.{paths-names, named-names}
use Rattle.depslog.specs.Drafting.{paths_bytes, with_names}
use Rattle.depslog.proofs.Paths.{paths-both, with_both}
use Rattle.depslog.proofs.Noted.{bytes_are}

-- One name, and then the others ----------------------------------------------------------------------------------------------

module _ (t u : Table) (x : List ℕ) (rest : List (List ℕ)) (e : u ≡ with_names t (unknown t.names x)) where
  names_then : u.names ≡ t.names ++ unknown t.names x
  names_then = ap (λ (v : Table). v.names) e ∙ paths-names t (unknown t.names x)

  new_then : new_names t.names (x ∷ rest) ≡ unknown t.names x ++ new_names u.names rest
  new_then = ap (λ (ns : List (List ℕ)). unknown t.names x ++ new_names ns rest) (sym names_then)

  table_then : with_names u (new_names u.names rest) ≡ with_names t (new_names t.names (x ∷ rest))
  table_then =
      ap (λ (v : Table). with_names v (new_names u.names rest)) e ∙ sym (with_both t (unknown t.names x) (new_names u.names rest)) ∙ ap (with_names t) (sym new_then)

  bytes_then : paths_bytes (length t.names) (new_names t.names (x ∷ rest)) ≡ paths_bytes (length t.names) (unknown t.names x) ++ paths_bytes (length u.names) (new_names u.names rest)
  bytes_then =
      ap (paths_bytes (length t.names)) new_then ∙ paths-both (length t.names) (unknown t.names x) (new_names u.names rest) ∙
      ap (λ (n : ℕ). paths_bytes (length t.names) (unknown t.names x) ++ paths_bytes n (new_names u.names rest)) (sym (ap length names_then ∙ length-append t.names (unknown t.names x)))

-- The bytes of a note --------------------------------------------------------------------------------------------------------

-- a note's deps record
abbrev pub deps_told : Table → Note → List ℕ
deps_told v n = record_bytes 0 (deps (id_in v.names n.output) n.says.mtime (map (id_in v.names) n.says.inputs))

-- the output's path record, those of the inputs, and the deps record
pub note_bytes_lem : (t u v : Table) (n : Note) → unchanged t n ≡ false → u ≡ with_names t (unknown t.names n.output) → v ≡ with_names u (new_names u.names n.says.inputs) →
    note_bytes t n ≡ paths_bytes (length t.names) (unknown t.names n.output) ++ (paths_bytes (length u.names) (new_names u.names n.says.inputs) ++ deps_told v n)
note_bytes_lem t u v n new e d =
    let id : ℕ = length t.names in
    let known : List (List ℕ) = extended t.names n in
    let names : v.names ≡ known = ap (λ (w : Table). w.names) (d ∙ table_then t u n.output n.says.inputs e) ∙ named-names t n in
    let b = bytes_then t u n.output n.says.inputs e in
    bytes_are t n new ∙
    ap (λ (ks : List (List ℕ)). paths_bytes id (new_names t.names (names_of n)) ++ record_bytes 0 (deps (id_in ks n.output) n.says.mtime (map (id_in ks) n.says.inputs))) (sym names) ∙
    ap (λ (xs : List ℕ). xs ++ deps_told v n) b ∙
    append_assoc (paths_bytes id (unknown t.names n.output)) (paths_bytes (length u.names) (new_names u.names n.says.inputs)) (deps_told v n)
