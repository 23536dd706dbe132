-- What calls over the lines of a text give. Assumes nothing.
use Rattle.std.specs.Prelude.{ℕ, Ok, Err, Result}
use Rattle.terms.specs.declared.At.{At}
use Rattle.terms.specs.declared.Refusal.{Refusal}

-- what stands where a call did it, or its fault
abbrev pub told : {A B F : Type 0} → Result A F → B → Result B F
told (Ok x) s = Ok s
told (Err f) s = Err f

-- a fault of a line, as the refusal that it is
abbrev pub refused_by : {A F : Type 0} → (ℕ → F → Refusal) → Result A (At F) → Result A Refusal
refused_by refusal (Ok x) = Ok x
refused_by refusal (Err f) = Err (refusal f.offset f.value)
