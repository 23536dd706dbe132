use Rattle.std.proofs.Common.{refl}
use Rattle.examples.proofs.Computed.{computed}
use Rattle.examples.proofs.first_log.Goals as goal

pub returns : goal.returns
returns c = record { bytes = refl; rows = computed }
