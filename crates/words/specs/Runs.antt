-- Classes of bytes, and the run of a class at the front. Assumes nothing.
use Rattle.std.specs.Prelude.{ℕ, Bool, cond, not, ◌&&◌, List, [], ◌∷◌, ◌==◌, nat_le}
use Rattle.words.specs.declared.class.Class.{Class}
use Rattle.words.specs.declared.class.Class.TheVariants.{Space, InLine, InKey, Digit, Shown, Nonzero}

abbrev pub is_of : Class → ℕ → Bool
is_of Space b = b == 32
is_of InLine b = not (b == 10)
is_of InKey b = not (b == 32) && not (b == 61)
is_of Digit b = nat_le 48 b && nat_le b 57
is_of Shown b = nat_le 32 b
is_of Nonzero b = not (b == 0)

-- the longest first part whose members all pass the test, and what follows it
abbrev pub front : {A : Type 0} → (A → Bool) → List A → List A
front p [] = []
front p (x ∷ xs) = cond (p x) (x ∷ front p xs) []

abbrev pub beyond : {A : Type 0} → (A → Bool) → List A → List A
beyond p [] = []
beyond p (x ∷ xs) = cond (p x) (beyond p xs) (x ∷ xs)
