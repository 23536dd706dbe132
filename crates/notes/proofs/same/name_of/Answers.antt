use Rattle.std.proofs.Common.{refl}
use Rattle.image.specs.Learning.{view}
use Rattle.notes.proofs.Compared.{name_or}
use Rattle.notes.proofs.same.name_of.Goals as goal

pub returns : goal.returns
returns c = name_or c.name.result _ c.unwrap_or.result (view c.args.table.now).names c.args.id c.unwrap_or.ensures refl c.name.ensures
