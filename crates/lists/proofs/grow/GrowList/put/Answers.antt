use Rattle.std.proofs.Math.Seq.{take-set-lt}
use Rattle.lists.proofs.grow.GrowList.put.Goals as goal

pub returns-then-i-self-clause-items : goal.returns-then-i-self-clause-items
returns-then-i-self-clause-items g c = take-set-lt _ _ _ _ c.if-i-self.true
