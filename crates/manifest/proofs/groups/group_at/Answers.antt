use Rattle.std.proofs.Common.{sym, ap, ◌∙◌}
use Rattle.manifest.specs.Groups.{rest}
use Rattle.manifest.specs.Left.{tokens_left}
use Rattle.manifest.proofs.Marks.{turn_first, turn_none}
use Rattle.manifest.proofs.groups.group_at.Goals as goal

pub loop-word-init : goal.loop-word-init
loop-word-init c =
    let w = c.of-words.ensures in
    record { same = w.same; turn = turn_first c.args.bytes.now c.args.at (tokens_left c.of-words.result) w.left }

pub returns : goal.returns
returns c =
    let xs = c.args.bytes.now in
    let i = c.loop-word.invariant in
    let k = c.in_default.ensures.steps in
    let s = c.loop-word.words in
    let t = c.next.new.self in
    let e = ap (λ ys. rest ys s.token s.next) i.same ∙ ap (λ u. rest xs u s.next) (sym k.1) ∙ ap (rest xs t.token) (sym k.2) in
    turn_none xs c.args.at t.next c.loop-word.count c.loop-word.long t.token (tokens_left s) e k.0 i.turn
