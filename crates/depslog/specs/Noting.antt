-- What a note's call means: names by their places in some bytes, and when it is refused. Assumes nothing.
use Rattle.std.specs.Prelude.{ℕ, ◌+◌, Bool, not, List, [], ◌∷◌, length, Option, nat_lt}
use Rattle.terms.specs.declared.Place.{Place}
use Rattle.terms.specs.declared.Refusal.{Refusal}
use Rattle.terms.specs.declared.Refusal.TheVariants.{Outside, NotName}
use Rattle.terms.specs.Names.{is_name}
use Rattle.terms.specs.Places.{at_place}
use Rattle.depslog.specs.Checks.{refuse}

abbrev pub outside : List ℕ → Place → Bool
outside bytes p = nat_lt (length bytes) (p.start + p.length)

-- a name's place, and then the name
abbrev pub place_fault : List ℕ → ℕ → Place → Option Refusal → Option Refusal
place_fault bytes i p after = refuse (Outside i) (outside bytes p) (refuse (NotName i) (not (is_name (at_place bytes p))) after)

-- name by name, the first having the index i
abbrev pub name_fault : List ℕ → ℕ → List Place → Option Refusal → Option Refusal
name_fault bytes i [] after = after
name_fault bytes i (p ∷ ps) after = place_fault bytes i p (name_fault bytes (i + 1) ps after)
