-- The number of each fault of a medium. Assumes nothing.
use Rattle.std.specs.Prelude.{ℕ}
use Rattle.medium.specs.declared.Fault.{Fault}
use Rattle.medium.specs.declared.Fault.TheVariants.{Off, Full}

-- off is number 1, and full number 2
abbrev pub number_of : Fault → ℕ
number_of Off = 1
number_of Full = 2
