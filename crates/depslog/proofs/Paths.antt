-- Path records one after the other, and what is known then. Assumes nothing.
use Rattle.std.proofs.Common.{◌≡◌, ℕ, ◌+◌, List, [], ◌∷◌, ◌++◌, length, sym, refl, ap, ◌∙◌, arith}
use Rattle.std.proofs.lemmas.List.{append_assoc}
use Rattle.image.specs.Bytes.{path, record_bytes}
use Rattle.image.specs.Tables.{Table, learn}
use Rattle.depslog.specs.Drafting.{paths_bytes, with_names}

pub paths-both : (id : ℕ) (ns ms : List (List ℕ)) → paths_bytes id (ns ++ ms) ≡ paths_bytes id ns ++ paths_bytes (id + length ns) ms
paths-both id [] ms = ap (λ (j : ℕ). paths_bytes j ms) (omega arith)
paths-both id (n ∷ ns) ms =
    ap (λ (xs : List ℕ). record_bytes id (path n) ++ xs) (paths-both (id + 1) ns ms ∙ ap (λ (j : ℕ). paths_bytes (id + 1) ns ++ paths_bytes j ms) (omega arith)) ∙
    sym (append_assoc (record_bytes id (path n)) (paths_bytes (id + 1) ns) (paths_bytes (id + length (n ∷ ns)) ms))

pub with_both : (t : Table) (ns ms : List (List ℕ)) → with_names t (ns ++ ms) ≡ with_names (with_names t ns) ms
with_both t [] ms = refl
with_both t (n ∷ ns) ms = with_both (learn t (path n)) ns ms
