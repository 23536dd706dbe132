-- Names made of bytes. Assumes nothing.
use Rattle.std.proofs.Common.{◌≡◌, ℕ, ◌≤◌, true, false, not, ◌&&◌, leb, List, [], ◌∷◌, map, length, refl}
use Rattle.std.proofs.lemmas.Bool.{and_from, and_parts, le-leb, leb-true, not-true, not_from_false}
use Rattle.terms.specs.Lists.{every}
use Rattle.terms.specs.Names.{holds_zero, is_name}
use Rattle.image.specs.declared.row.Row.{Row}
use Rattle.image.specs.View.{name_in}

pub is_name_lem : (xs : List ℕ) → 1 ≤ length xs → length xs ≤ 120 → holds_zero xs ≡ false → is_name xs ≡ true
is_name_lem xs p q z =
    and_from (leb 1 (length xs) && leb (length xs) 120) (not (holds_zero xs))
    (and_from (leb 1 (length xs)) (leb (length xs) 120) (le-leb 1 (length xs) p) (le-leb (length xs) 120 q)) (not_from_false (holds_zero xs) z)

pub record Named (xs : List ℕ) : Type 0 where
  pub some : 1 ≤ length xs
  pub short : length xs ≤ 120
  pub clear : holds_zero xs ≡ false

-- what a name is, part by part
pub name-parts : (xs : List ℕ) → is_name xs ≡ true → Named xs
name-parts xs e =
    let p = and_parts (leb 1 (length xs) && leb (length xs) 120) (not (holds_zero xs)) e in
    let q = and_parts (leb 1 (length xs)) (leb (length xs) 120) p.0 in
    record { some = leb-true 1 (length xs) q.0; short = leb-true (length xs) 120 q.1; clear = not-true (holds_zero xs) p.1 }

-- the names of a table are names
pub all_named : (rs : List Row) → every is_name (map name_in rs) ≡ true
all_named [] = refl
all_named (r ∷ rs) = and_from (is_name (name_in r)) (every is_name (map name_in rs)) r.name.named (all_named rs)
