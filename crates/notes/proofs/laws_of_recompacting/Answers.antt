use Rattle.notes.proofs.Compacted.{compaction}
use Rattle.notes.proofs.laws_of_recompacting.Goals as goal

pub returns : goal.returns
returns c = compaction
