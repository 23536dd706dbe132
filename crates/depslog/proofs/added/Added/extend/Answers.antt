use Rattle.image.specs.Learning.{view}
use Rattle.std.proofs.Common.{refl}
use Rattle.depslog.proofs.Addings.{adds_more}
use Rattle.depslog.proofs.added.Added.extend.Goals as goal

pub returns-clause-adds : goal.returns-clause-adds
returns-clause-adds c =
    adds_more (view c.args.table.now) c.args.input.now c.args.self.now _ refl refl c.take_in-id.ensures.names c.take_in-id.result c.take_in-id.ensures.id c.requires.inputs c.push.ensures.after
