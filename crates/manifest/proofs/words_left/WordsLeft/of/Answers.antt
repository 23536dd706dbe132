use Rattle.std.proofs.Common.{sym}
use Rattle.manifest.proofs.Marks.{token-is}
use Rattle.manifest.proofs.words_left.WordsLeft.of.Goals as goal

pub returns-clause-left : goal.returns-clause-left
returns-clause-left c =
    let t = c.next_token-token.result in
    let e = c.next_token-token.ensures in
    sym (token-is c.args.bytes.now c.args.at t.1 t.0 e.token e.next)
