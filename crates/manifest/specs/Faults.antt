-- The refusal for each kind of fault. Assumes nothing.
use Rattle.std.specs.Prelude.{ℕ}
use Rattle.terms.specs.declared.Refusal.{Refusal}
use Rattle.terms.specs.declared.Refusal.TheVariants as refusal
use Rattle.manifest.specs.declared.fault.Fault.{Fault}
use Rattle.manifest.specs.declared.fault.Fault.TheVariants.{NotUnderstood, RuleDeclared, PastLimit, MadeTwice}

-- the refusal for each kind of fault, with its line
abbrev pub fault_refusal : ℕ → Fault → Refusal
fault_refusal line NotUnderstood = refusal.ManifestLine line
fault_refusal line RuleDeclared = refusal.RuleDeclared line
fault_refusal line PastLimit = refusal.PastLimit line
fault_refusal line MadeTwice = refusal.MadeTwice line
