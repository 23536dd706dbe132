use Rattle.std.proofs.Common.{◌≡◌, drop, sym, ap, ◌∙◌, subst, arith}
use Rattle.std.specs.Option.{option_map}
use Rattle.words.specs.Shown.{Counted}
use Rattle.words.specs.Tokens.{tokens}
use Rattle.manifest.specs.Building.{inputs_of, with_inputs, with_rule, build_of}
use Rattle.manifest.specs.Groups.{word_name, group_names, inputs_shown, built_shown, InputSums}
use Rattle.manifest.proofs.Marks.{token-is, word_first, is_mark, past-colon, no_rule, build_as, some_words}
use Rattle.manifest.proofs.build.build_at.Goals as goal
use Rattle.manifest.proofs.build.build_at.Goals.{In-Word}

pub returns-in_default-token : goal.returns-in_default-token
returns-in_default-token c =
    let xs = c.args.bytes.now in
    let g = c.group_at-outputs.result in
    let e = c.group_at-outputs.ensures in
    let t = c.next_token-token.result in
    let f = c.next_token-token.ensures in
    record {
      said = no_rule xs t.1 (group_names xs g) t.0 (is_mark t.0 c.in_default-token.not-Word) ∙ ap (with_rule (group_names xs g)) (sym (token-is xs g.next t.1 t.0 f.token f.next)) ∙
          sym (build_as xs c.args.at g e ∙ past-colon xs g.next (group_names xs g) g.mark c.in-Colon.is (some_words xs g e.sums (λ z. omega (arith, c.if-outputs-lt-LEAST.false))));
      sums = tt;
    }

-- with outputs, a colon and the rule's name, what is left are the inputs
said : (c : In-Word) → build_of (tokens (drop c.args.at c.args.bytes.now)) ≡ with_inputs (group_names c.args.bytes.now c.group_at-outputs.result) (word_name c.args.bytes.now c.in-Word.rule) (inputs_of (tokens (drop c.next_token-token.result.1 c.args.bytes.now)))
said c =
    let xs = c.args.bytes.now in
    let g = c.group_at-outputs.result in
    let e = c.group_at-outputs.ensures in
    let t = c.next_token-token.result in
    let f = c.next_token-token.ensures in
    build_as xs c.args.at g e ∙ past-colon xs g.next (group_names xs g) g.mark c.in-Colon.is (some_words xs g e.sums (λ z. omega (arith, c.if-outputs-lt-LEAST.false))) ∙
    ap (with_rule (group_names xs g)) (word_first xs g.next t.1 t.0 c.in-Word.rule f.token f.next c.in-Word.is)

pub returns : goal.returns
returns c =
    let xs = c.args.bytes.now in
    let g = c.group_at-outputs.result in
    let k = subst (λ v. Counted xs g.next v c.next_token-token.result.1) c.in-Word.is c.next_token-token.ensures.counted in
    record {
      said = ap (with_inputs (group_names xs g) (word_name xs c.in-Word.rule)) (ap (option_map (inputs_shown xs)) (sym c.in_ok-inputs.was) ∙ c.inputs_at.ensures.said) ∙ sym (said (goal.at.returns c).In-Word);
      sums = (c.group_at-outputs.ensures.sums, subst (InputSums xs) c.in_ok-inputs.was c.inputs_at.ensures.sums, (k.0, omega (arith, k.1, k.3)));
    }

pub returns-in_err-inputs-clause-said : goal.returns-in_err-inputs-clause-said
returns-in_err-inputs-clause-said c =
    let xs = c.args.bytes.now in
    ap (option_map (built_shown xs)) c.from_residual.ensures ∙
    ap (with_inputs (group_names xs c.group_at-outputs.result) (word_name xs c.in-Word.rule)) (ap (option_map (inputs_shown xs)) (sym c.in_err-inputs.was) ∙ c.inputs_at.ensures.said) ∙ sym (said (goal.at.returns-in_err-inputs-clause-said c).In-Word)
