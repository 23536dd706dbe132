-- The letter of each reason. Assumes nothing.
use Rattle.std.specs.Prelude.{ℕ}
use Rattle.planner.specs.declared.letter.Letter.{Letter}
use Rattle.planner.specs.declared.letter.Letter.TheVariants.{Missing, Lacking, Outdated, Gone, Spoilt, Newer}

-- M, L, T, G, S, N
abbrev pub byte_of : Letter → ℕ
byte_of Missing = 77
byte_of Lacking = 76
byte_of Outdated = 84
byte_of Gone = 71
byte_of Spoilt = 83
byte_of Newer = 78
