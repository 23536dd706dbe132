-- The first element with a property. Assumes nothing.
use Rattle.std.specs.Prelude.{ℕ, ◌<◌, List, length, Some, None, Option, slice_index_or}

-- no element before n has it
abbrev pub NoneTo : {X : Type 0} → (X → Type 0) → List X → ℕ → Type 0
NoneTo {X} P xs n = (k : ℕ) (d : X) → k < n → P (slice_index_or xs k d) → ⊥

-- the index of the first that has it; none exactly where no element has it
abbrev pub First : {X : Type 0} → (X → Type 0) → List X → Option ℕ → Type 0
First {X} P xs None = NoneTo P xs (length xs)
First {X} P xs (Some i) = (i < length xs) × ((d : X) → P (slice_index_or xs i d)) × NoneTo P xs i
