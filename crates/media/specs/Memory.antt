-- Memory for bytes, as a store sees it. Assumes nothing.
use Rattle.std.specs.Prelude.{ℕ, ◌+◌, List, ◌++◌, length, take, drop}
use Rattle.std.specs.Borrow.{MutBor}

-- how many bytes there is room for, and all that stands there
pub record Memory : Type 0 where
  pub size : ℕ
  pub bytes : List ℕ

-- memory where xs stands, and that has room for no more
abbrev pub filled : List ℕ → Memory
filled xs = record { size = length xs; bytes = xs }

-- memory that a caller lends
abbrev pub lent : MutBor (List ℕ) → Memory
lent a = filled a.now

-- an array of n bytes
abbrev pub own : ℕ → List ℕ → Memory
own n xs = record { size = n; bytes = xs }

-- xs with bs in the place of its bytes from `at` on
abbrev pub written : ℕ → List ℕ → List ℕ → List ℕ
written at bs xs = take at xs ++ (bs ++ drop (at + length bs) xs)
