use Rattle.std.proofs.Common.{drop, sym, ap, ◌∙◌, subst, arith}
use Rattle.terms.specs.Lists.{empty}
use Rattle.words.specs.Shown.{Counted}
use Rattle.words.specs.Tokens.{tokens}
use Rattle.manifest.specs.Building.{rule_of}
use Rattle.manifest.specs.Groups.{word_name}
use Rattle.manifest.proofs.Marks.{token-is, word_first, is_mark, no_name, one_name, more-names, at_end, not_end}
use Rattle.manifest.proofs.build.rule_at.Goals as goal

pub returns-in_default : goal.returns-in_default
returns-in_default c =
    let xs = c.args.bytes.now in
    let t = c.next_token-token.result in
    let e = c.next_token-token.ensures in
    record { said = no_name xs t.0 t.1 (is_mark t.0 c.in_default.not-Word) ∙ ap rule_of (sym (token-is xs c.args.at t.1 t.0 e.token e.next)); sums = tt }

pub returns-in-End : goal.returns-in-End
returns-in-End c =
    let xs = c.args.bytes.now in
    let t = c.next_token-token.result in
    let e = c.next_token-token.ensures in
    let u = c.next_token-behind.result in
    let f = c.next_token-behind.ensures in
    let k = subst (λ v. Counted xs c.args.at v t.1) c.in-Word.is e.counted in
    record {
      said = one_name (word_name xs c.in-Word.word) (tokens (drop c.args.at xs)) (tokens (drop t.1 xs)) (word_first xs c.args.at t.1 t.0 c.in-Word.word e.token e.next c.in-Word.is)
          (ap empty (token-is xs t.1 u.1 u.0 f.token f.next) ∙ at_end xs u.1 u.0 c.in-End.is);
      sums = (k.0, omega (arith, k.1, k.3));
    }

pub returns-in_default-behind : goal.returns-in_default-behind
returns-in_default-behind c =
    let xs = c.args.bytes.now in
    let t = c.next_token-token.result in
    let e = c.next_token-token.ensures in
    let u = c.next_token-behind.result in
    let f = c.next_token-behind.ensures in
    record {
      said = more-names (word_name xs c.in-Word.word) (tokens (drop c.args.at xs)) (tokens (drop t.1 xs)) (word_first xs c.args.at t.1 t.0 c.in-Word.word e.token e.next c.in-Word.is)
          (ap empty (token-is xs t.1 u.1 u.0 f.token f.next) ∙ not_end xs u.1 u.0 c.in_default-behind.not-End);
      sums = tt;
    }
