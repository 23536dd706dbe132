use Rattle.std.proofs.Common.{rules, ◌<◌, length, sym, arith}
use Rattle.std.proofs.lemmas.Bool.{eqb-true, eqb-false}
use Rattle.depslog.proofs.Opens.{mended-empty, mended-short, mended-not}
use Rattle.depslog.proofs.opening.mend.Goals as goal

pub returns-then-is_empty : goal.returns-then-is_empty
returns-then-is_empty g c =
    let live = c.args.live.now in
    mended-empty live (g.M.Medium.state c.args.medium.now) c.put_in_place.result (g.M.Medium.state c.put_in_place.new.medium) (eqb-true (length live) 0 (sym c.if-is_empty.ensures)) c.put_in_place.ensures

pub returns-then-good-live : goal.returns-then-good-live
returns-then-good-live g c =
    let live = c.args.live.now in
    let some : 0 < length live = omega (arith, eqb-false (length live) 0 (sym c.if-is_empty.ensures)) in
    mended-short live c.args.good _ c.put_in_place-then-good-live.result _ some c.requires c.if-good-live.true c.put_in_place-then-good-live.ensures

pub returns-else-good-live : goal.returns-else-good-live
returns-else-good-live g c =
    let live = c.args.live.now in
    let some : 0 < length live = omega (arith, eqb-false (length live) 0 (sym c.if-is_empty.ensures)) in
    mended-not live c.args.good _ _ _ some c.requires c.if-good-live.false (search rules)
