use Rattle.std.proofs.Common.{arith}
use Rattle.words.specs.Shown.{shown}
use Rattle.words.proofs.Lexemes.{behind_spaces, word_read, word-wrong}
use Rattle.words.proofs.tokens.next_token.Goals as goal

pub returns-in-Some : goal.returns-in-Some
returns-in-Some c =
    let e = c.in-Some.ensures in
    let t = behind_spaces c.args.bytes.now c.args.at _ c.span_end-start.ensures.end _ c.part.ensures (shown c.args.bytes.now c.in-Some.token) c.in-Some.length (e.0 c.args.bytes.now) e.1 in
    record { token = t.0; next = t.1; counted = e.3 _ _ _ }

pub overflow_add-result-in-Some-word_at : goal.overflow_add-result-in-Some-word_at
overflow_add-result-in-Some-word_at c =
    let e = c.in_default.ensures in
    let w = word_read c.args.bytes.now c.args.at _ c.span_end-start.ensures.end _ c.part.ensures e.0 e.1 e.2 e.3 e.4 c.in-Some-word_at.word c.in-Some-word_at.ensures.word in
    omega (arith, w.within)

pub returns-in-Some-word_at : goal.returns-in-Some-word_at
returns-in-Some-word_at c =
    let e = c.in_default.ensures in
    let w = word_read c.args.bytes.now c.args.at _ c.span_end-start.ensures.end _ c.part.ensures e.0 e.1 e.2 e.3 e.4 c.in-Some-word_at.word c.in-Some-word_at.ensures.word in
    record { token = w.first; next = w.next; counted = (w.counts, omega (arith, w.begins), omega (arith, w.some, c.span_end-start.ensures.end), w.within) }

pub returns-in-None : goal.returns-in-None
returns-in-None c =
    let e = c.in_default.ensures in
    let t = word-wrong c.args.bytes.now c.args.at _ c.span_end-start.ensures.end _ c.part.ensures e.0 e.1 e.2 e.3 e.4 c.in-None.ensures.word in
    record { token = t.0; next = t.1; counted = tt }
