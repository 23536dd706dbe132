-- What a total order is, as a test. Assumes nothing.
use Rattle.std.specs.Prelude.{◌≡◌, Bool, true, ◌&&◌, ◌||◌}

pub record Order {X : Type 0} (le : X → X → Bool) : Type 0 where
  pub reflexive : (x : X) → le x x ≡ true
  pub antisymmetric : (x y : X) → le x y ≡ true → le y x ≡ true → x ≡ y
  pub transitive : (x y z : X) → le x y ≡ true → le y z ≡ true → le x z ≡ true
  pub total : (x y : X) → (le x y || le y x) ≡ true

-- each is at most the other: of a total order, they are equal
abbrev pub same_by : {X : Type 0} → (X → X → Bool) → X → X → Bool
same_by le x y = le x y && le y x
