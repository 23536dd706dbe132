-- What stands at a place of some bytes. Assumes nothing.
use Rattle.std.specs.Prelude.{ℕ, List, take, drop}
use Rattle.terms.specs.declared.Place.{Place}

-- the bytes at a place, as far as there are any
abbrev pub at_place : List ℕ → Place → List ℕ
at_place bytes p = take p.length (drop p.start bytes)
