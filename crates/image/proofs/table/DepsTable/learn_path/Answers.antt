use Rattle.std.proofs.Common.{true, false, is_some, ap, ◌∙◌, arith}
use Rattle.image.specs.Learning.{view}
use Rattle.image.proofs.Readings.{known_by}
use Rattle.image.proofs.Learned.{path-full, path-known}
use Rattle.image.proofs.table.DepsTable.learn_path.Goals as goal
use Rattle.image.proofs.table.DepsTable.learn_path.Goals.{then-path_count-ge256-via-then-path_count-ge256, then-path_count-ge256-via-else-path_count-ge256+then-is_some}

pub returns-then-path_count-ge256 : goal.returns-then-path_count-ge256
returns-then-path_count-ge256 c =
    let t = view c.args.self.now in
    let name = c.args.name.now in
    elim c.then-path_count-ge256.branch [
      | then-path_count-ge256-via-then-path_count-ge256 w ↦ path-full t name (omega (arith, c.path_count.ensures.count, w.if-path_count-ge256.true))
      | then-path_count-ge256-via-else-path_count-ge256+then-is_some w ↦ path-known t name (known_by name t.names true (w.if-is_some.ensures ∙ ap is_some w.id_of.ensures))
    ]

pub add_path-requires : goal.add_path-requires
add_path-requires c = record {
  unknown = known_by c.args.name.now (view c.args.self.now).names false (c.if-is_some.ensures ∙ ap is_some c.id_of.ensures);
  room = omega (arith, c.path_count.ensures.count, c.if-path_count-ge256.false);
}
