-- What a list of few elements holds. Assumes nothing.
use Rattle.std.specs.Prelude.{ℕ, List, take}
use Rattle.terms.specs.declared.few.Few.{Few}

module _ {T : Type 0} {n : ℕ} where
  -- the elements, in order
  abbrev pub items : Few T n → List T
  items f = take f.len f.slots
