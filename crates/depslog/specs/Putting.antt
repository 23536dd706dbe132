-- Putting bytes somewhere on a medium, piece by piece. Assumes nothing.
use Rattle.std.specs.Prelude.{◌≡◌, ℕ, ◌+◌, true, List, [], ◌++◌, length, Ok, Err, Result}
use Rattle.medium.specs.declared.Fault.{Fault}
use Rattle.medium.specs.State.{State}

-- what putting some bytes may answer and leave
abbrev pub Puts : Type 1
Puts = List ℕ → State → Result (Unit {0}) Fault → State → Type 0

-- Pieces one after the other are put as one: none need nothing; a piece behind those that are put goes behind them; and where one breaks, what should follow it is lost with it.
-- `held` are the bytes behind which they go.
pub record InPieces (held : State → List ℕ) (puts : Puts) : Type 0 where
  pub none : (s : State) → s.power ≡ true → puts [] s (Ok tt) s
  pub behind : (xs ys : List ℕ) (s t u : State) (r : Result (Unit {0}) Fault) → s.power ≡ true → puts xs s (Ok tt) t → puts ys t r u → puts (xs ++ ys) s r u
  pub broke : (xs ys : List ℕ) (s u : State) (f : Fault) → puts xs s (Err f) u → puts (xs ++ ys) s (Err f) u
  pub on : (xs : List ℕ) (s t : State) → puts xs s (Ok tt) t → t.power ≡ true
  pub grown : (xs : List ℕ) (s t : State) → puts xs s (Ok tt) t → length (held t) ≡ length (held s) + length xs
  pub wide : (xs : List ℕ) (s t : State) → puts xs s (Ok tt) t → t.capacity ≡ s.capacity
