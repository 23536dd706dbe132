-- What a list over lent memory holds. Assumes nothing.
use Rattle.std.specs.Prelude.{ℕ, List, length, take}
use Rattle.lists.specs.declared.grow.GrowList.{GrowList}

-- what it holds: the first elements of its memory. What stands behind them is free.
abbrev pub items : {T : Type 0} → GrowList T → List T
items g = take g.len g.memory.now

-- the whole memory, and how many elements it has
abbrev pub over : {T : Type 0} → GrowList T → List T
over g = g.memory.now

abbrev pub room : {T : Type 0} → GrowList T → ℕ
room g = length g.memory.now

-- the loan by which the memory came
abbrev pub lender : {T : Type 0} → GrowList T → ℕ
lender g = g.memory.ghost_name
