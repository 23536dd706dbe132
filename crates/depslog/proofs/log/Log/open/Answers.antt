use Rattle.std.proofs.Common.{◌≡◌, ℕ, ◌-◌, List, take, Ok, Err, ap, ◌∙◌}
use Rattle.std.proofs.lemmas.Result.{err_from_is_err_and}
use Rattle.image.specs.Scans.{filled}
use Rattle.image.specs.Learning.{view}
use Rattle.depslog.specs.State.{live_of}
use Rattle.depslog.proofs.Faults.{readable}
use Rattle.depslog.proofs.OpenCases.{not-copied, copied_is, part-live, not_read, not-mended, mended, was_closed, stays_closed, mending_of}
use Rattle.depslog.proofs.log.Log.open.Goals as goal

pub returns-in_err-len : goal.returns-in_err-len
returns-in_err-len g c =
    let st = g.M.Medium.state in
    let l = c.args.self.now in
    let p = err_from_is_err_and c.from_residual.result c.from_residual.ensures.1 in
    rw (p.1, p.2)
    (stays_closed l.open (view l.table) (view l.table) (st l.medium) (st c.copy_live.new.medium) c.args.copy.now c.copy_live.new.copy _ c.if-self.false
    (not-copied (st l.medium) (st c.copy_live.new.medium) c.args.copy.now c.copy_live.new.copy _ c.in_err-len.ensures))

pub returns-in_err-filled : goal.returns-in_err-filled
returns-in_err-filled g c =
    let st = g.M.Medium.state in
    let l = c.args.self.now in
    let m = st l.medium in
    let n = st c.copy_live.new.medium in
    let d = copied_is m n c.args.copy.now c.copy_live.new.copy c.in_ok-len.len c.in_ok-len.ensures in
    let e = part-live m n c.args.copy.now c.copy_live.new.copy c.in_ok-len.len d in
    let p = err_from_is_err_and c.from_residual-in_err-filled.result c.from_residual-in_err-filled.ensures.1 in
    rw (p.1, p.2)
    (stays_closed l.open (view l.table) (view c.fill.new.self) m n c.args.copy.now c.copy_live.new.copy _ c.if-self.false
    (not_read m n c.args.copy.now c.copy_live.new.copy _ c.in_ok-len.len _ (view c.fill.new.self) d e c.in_err-filled.ensures.value))

pub mend-requires : goal.mend-requires
mend-requires g c =
    let live : List ℕ = take (c.in_ok-len.len - 0) c.copy_live.new.copy in
    (readable live c.in_ok-filled.filled (view c.fill.new.self) c.in_ok-filled.ensures.value).past

pub returns-in_err-mend : goal.returns-in_err-mend
returns-in_err-mend g c =
    let st = g.M.Medium.state in
    let l = c.args.self.now in
    let m = st l.medium in
    let n = st c.copy_live.new.medium in
    let after = c.copy_live.new.copy in
    let t = view c.fill.new.self in
    let x = c.in_ok-filled.filled in
    let live : List ℕ = take (c.in_ok-len.len - 0) after in
    let d = copied_is m n c.args.copy.now after c.in_ok-len.len c.in_ok-len.ensures in
    let e : live ≡ live_of m = part-live m n c.args.copy.now after c.in_ok-len.len d in
    let q = readable (live_of m) x t (c.in_ok-filled.ensures.value ∙ ap filled e) in
    let w = mending_of m n (st c.mend.new.medium) live (Err c.in_err-mend.field-0.0) d.medium e c.in_err-mend.ensures in
    let p = err_from_is_err_and c.from_residual-in_err-mend.result c.from_residual-in_err-mend.ensures.1 in
    rw (p.1, p.2)
    (stays_closed l.open (view l.table) t m (st c.mend.new.medium) c.args.copy.now after _ c.if-self.false
    (not-mended m (st c.mend.new.medium) n c.args.copy.now after c.in_ok-len.len x t c.in_err-mend.field-0.0 d q w))

pub returns : goal.returns
returns g c =
    let st = g.M.Medium.state in
    let l = c.args.self.now in
    let m = st l.medium in
    let n = st c.copy_live.new.medium in
    let after = c.copy_live.new.copy in
    let t = view c.fill.new.self in
    let x = c.in_ok-filled.filled in
    let live : List ℕ = take (c.in_ok-len.len - 0) after in
    let d = copied_is m n c.args.copy.now after c.in_ok-len.len c.in_ok-len.ensures in
    let e : live ≡ live_of m = part-live m n c.args.copy.now after c.in_ok-len.len d in
    let q = readable (live_of m) x t (c.in_ok-filled.ensures.value ∙ ap filled e) in
    let w = mending_of m n (st c.mend.new.medium) live (Ok tt) d.medium e c.in_ok-mend.ensures in
    was_closed l.open (view l.table) m c.args.copy.now after _ _ c.if-self.false (mended m (st c.mend.new.medium) n c.args.copy.now after c.in_ok-len.len x t d q w)
