use Rattle.std.proofs.Common.{codes, sym, arith, rules}
use Rattle.manifest.proofs.Lines.{begins-within}
use Rattle.manifest.proofs.line.kind_at.Goals as goal

pub returns-then-begins-4 : goal.returns-then-begins-4
returns-then-begins-4 c = record { kind = search rules; behind = begins-within c.args.bytes.now (codes "rule ") c.args.at (sym c.if-begins-4.ensures) (omega arith) }

pub returns-then-begins-5 : goal.returns-then-begins-5
returns-then-begins-5 c = record { kind = search rules; behind = begins-within c.args.bytes.now (codes "build ") c.args.at (sym c.if-begins-5.ensures) (omega arith) }
