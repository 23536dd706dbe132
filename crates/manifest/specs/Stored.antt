-- Places that were added to some. Assumes nothing.
use Rattle.std.specs.Prelude.{◌≡◌, ℕ, List, map, length, take, drop}
use Rattle.terms.specs.declared.Place.{Place}
use Rattle.words.specs.Spelling.{name_at}

-- the old ones stand first, and behind them places of these names
pub record Stored (text : List ℕ) (old new : List Place) (names : List (List ℕ)) : Type 0 where
  pub front : take (length old) new ≡ old
  pub added : map (name_at text) (drop (length old) new) ≡ names
