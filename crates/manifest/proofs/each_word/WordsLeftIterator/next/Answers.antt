use Rattle.std.proofs.Common.{◌≡◌, ◌∷◌, length, drop, refl, ap, ◌∙◌, arith}
use Rattle.words.specs.Spelling.{name_at}
use Rattle.words.specs.Tokens.{named, tokens}
use Rattle.manifest.specs.Building.{names_of}
use Rattle.manifest.specs.Groups.{rest}
use Rattle.manifest.specs.Left.{tokens_left}
use Rattle.manifest.proofs.Marks.{token-is, is_mark, mark_names}
use Rattle.manifest.proofs.each_word.WordsLeftIterator.next.Goals as goal
use Rattle.manifest.proofs.each_word.WordsLeftIterator.next.Goals.{In-Word}

pub returns-in_default : goal.returns-in_default
returns-in_default c =
    let s = c.args.self.now in
    record {
      steps = (mark_names s.bytes.now s.token s.next (is_mark s.token c.in_default.not-Word), refl, refl, refl);
      goes = record { on = λ f. tt; keeps = tt; rests = λ f. f };
    }

-- the word stands first
first : (c : In-Word) → tokens_left c.args.self.now ≡ named (name_at c.args.self.now.bytes.now c.in-Word.word.place) ∷ tokens (drop c.args.self.now.next c.args.self.now.bytes.now)
first c = ap (λ u. rest c.args.self.now.bytes.now u c.args.self.now.next) c.in-Word.is

pub returns-clause-steps : goal.returns-clause-steps
returns-clause-steps c =
    let s = c.args.self.now in
    let xs = s.bytes.now in
    let t = c.next_token.result in
    let e = c.next_token.ensures in
    let w = c.in-Word.word in
    let k = s.measured w c.in-Word.is in
    record {
      first = first (goal.at.returns-clause-steps c).In-Word ∙ ap (λ ts. named (name_at xs w.place) ∷ ts) (token-is xs s.next t.1 t.0 e.token e.next);
      long = k.0.0;
      within = k.0.1;
      on = omega (arith, e.next);
      ends = k.1;
      same = refl;
    }

pub returns-clause-goes : goal.returns-clause-goes
returns-clause-goes c =
    let s = c.args.self.now in
    let xs = s.bytes.now in
    let t = c.next_token.result in
    let e = c.next_token.ensures in
    let a = ap (λ ts. length (names_of ts)) (first (goal.at.returns-clause-goes c).In-Word) in
    let b = ap (λ ts. length (names_of ts)) (token-is xs s.next t.1 t.0 e.token e.next) in
    record { on = λ f. (tt, tt, omega (arith, a, b)); keeps = tt; rests = λ f. tt }
