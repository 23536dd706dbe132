-- Words about lists, and about names, which are lists of bytes. Assumes nothing.
use Rattle.std.specs.Prelude.{ℕ, ◌+◌, Bool, true, false, cond, ◌&&◌, ◌||◌, List, [], ◌∷◌, ◌++◌, Some, None, Option}
use Rattle.std.specs.Str.{bytes_eq}

abbrev pub empty : {A : Type 0} → List A → Bool
empty [] = true
empty (x ∷ xs) = false

-- whether the test holds of every member, and of some member
abbrev pub every : {A : Type 0} → (A → Bool) → List A → Bool
every p [] = true
every p (x ∷ xs) = p x && every p xs

abbrev pub some : {A : Type 0} → (A → Bool) → List A → Bool
some p [] = false
some p (x ∷ xs) = p x || some p xs

-- whether a name is among some
abbrev pub is_in : List ℕ → List (List ℕ) → Bool
is_in n ns = some (bytes_eq n) ns

-- one more at the end
abbrev pub ◌▷◌ : {A : Type 0} → List A → A → List A
xs ▷ x = xs ++ x ∷ []

infixl 64 ◌▷◌
-- the place of the first member for which the test holds, the places counting from i on
abbrev pub place_from : {A : Type 0} → ℕ → (A → Bool) → List A → Option ℕ
place_from i p [] = None
place_from i p (x ∷ xs) = cond (p x) (Some i) (place_from (i + 1) p xs)

-- where a name stands first among some
abbrev pub place_in : List ℕ → List (List ℕ) → Option ℕ
place_in n ns = place_from 0 (bytes_eq n) ns
