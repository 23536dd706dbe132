use Rattle.image.proofs.Learned.{view-kept}
use Rattle.image.proofs.table.DepsTable.path_count.Goals as goal

pub returns-clause-kept : goal.returns-clause-kept
returns-clause-kept c = view-kept c.args.self.now
