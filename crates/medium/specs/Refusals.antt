-- The refusal for a medium's fault. Assumes nothing.
use Rattle.std.specs.Prelude.{Bool, true, false}
use Rattle.terms.specs.declared.Refusal.{Refusal}
use Rattle.terms.specs.declared.Refusal.TheVariants as refusal
use Rattle.medium.specs.declared.Fault.{Fault}
use Rattle.medium.specs.declared.Fault.TheVariants.{Off, Full}

abbrev pub refusal_of : Fault → Refusal
refusal_of Off = refusal.PowerOff
refusal_of Full = refusal.Full

-- whether it is that the power is off or failed
abbrev pub is_off : Fault → Bool
is_off Off = true
is_off Full = false
