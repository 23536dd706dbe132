use Rattle.std.proofs.Common.{false, arith}
use Rattle.image.specs.Learning.{view}
use Rattle.image.proofs.Learned.{path-full}
use Rattle.image.proofs.Fills.{path-taken-by}
use Rattle.image.proofs.table.DepsTable.take_path.Goals as goal

pub returns-then-path_count-ge256 : goal.returns-then-path_count-ge256
returns-then-path_count-ge256 c =
    let t = view c.args.self.now in
    let name = c.args.name.now in
    let r = c.requires in
    let k = path-taken-by t name false t (r.some, r.clear, r.unknown) (path-full t name (omega (arith, c.path_count.ensures.count, c.if-path_count-ge256.true))) in
    record { limit = k.limit; after = k.after }

pub returns : goal.returns
returns c =
    let t = view c.args.self.now in
    let r = c.requires in
    let k = path-taken-by t c.args.name.now _ _ (r.some, r.clear, r.unknown) c.add_path.ensures in
    record { limit = k.limit; after = k.after }
