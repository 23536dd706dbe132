use Rattle.std.proofs.Common.{replicate, arith}
use Rattle.image.specs.Bytes.{deps, record_bytes}
use Rattle.image.specs.View.{entry_of}
use Rattle.image.proofs.Learned.{entry-short}
use Rattle.image.proofs.Writes.{length-deps}
use Rattle.depslog.proofs.Drafts.{wrote_not}
use Rattle.depslog.proofs.putting.put_deps.Goals as goal

pub unreachable-requires : goal.unreachable-requires
unreachable-requires g c =
    let e = entry_of c.args.entry.now in
    wrote_not (record_bytes 0 (deps c.args.output e.mtime e.inputs)) (replicate 272 0) c.write_deps.new.buf c.in_default.field-0 (omega (arith, length-deps c.args.output e.mtime e.inputs, entry-short c.args.entry.now)) c.in_default.ensures
