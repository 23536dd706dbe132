use Rattle.std.proofs.Common.{◌+◌, None, drop, sym, ◌∙◌}
use Rattle.depslog.specs.Noting.{name_fault}
use Rattle.depslog.proofs.Cuts.{place-good, names-next}
use Rattle.depslog.proofs.names.check_names.Goals as goal

pub loop-k-preserved : goal.loop-k-preserved
loop-k-preserved c =
    let n = c.args.note.now in
    let k = c.loop-k.k in
    let after = name_fault n.bytes.now (k + 1 + 1) (drop (k + 1) n.inputs.now) None in
    sym (place-good n.bytes.now (k + 1) _ after c.in_ok-check_place-2.ensures) ∙ sym (names-next n.bytes.now (k + 1) k n.inputs.now _ c.loop-k-test.true) ∙ c.loop-k.invariant
