use Rattle.std.proofs.Common.{◌≡◌, ℕ, List, map, take, Some, sym, refl, ap, ◌∙◌, arith}
use Rattle.std.proofs.lemmas.List.{length-map}
use Rattle.lists.specs.Grown.{items}
use Rattle.terms.specs.Places.{at_place}
use Rattle.words.specs.Spelling.{unescaped}
use Rattle.manifest.specs.declared.rule.Rule.{Rule}
use Rattle.manifest.specs.Books.{is_over, rule_number}
use Rattle.manifest.specs.Groups.{word_name, built_shown}
use Rattle.manifest.specs.Kept.{book_of}
use Rattle.manifest.specs.Views.{declaration, making}
use Rattle.manifest.proofs.Declares.{stated-many, stated-within}
use Rattle.words.proofs.Oks.{given}
use Rattle.manifest.proofs.reader.Reader.state.Goals as goal
use Rattle.manifest.proofs.reader.Reader.state.Goals.{In_ok-rule}

-- the rule is declared above
declared : (c : In_ok-rule) → rule_number (map (declaration c.args.line.text.now) (items c.args.self.now.rules)) (word_name (take c.args.line.end c.args.line.text.now) c.args.built.now.rule) ≡ Some c.in_ok-rule.rule
declared c =
    let D = declaration c.args.line.text.now in
    let p = c.args.built.now.rule.place in
    ap (λ (bs : List ℕ). rule_number (map D (items c.args.self.now.rules)) (unescaped bs)) (ap (λ (xs : List ℕ). at_place xs p) (sym c.front-bytes.ensures) ∙ sym c.of.ensures) ∙
    ap (λ (rs : List Rule). rule_number (map D rs) (unescaped c.of.result.now)) (sym c.as_slice.ensures) ∙ sym c.rule_number.ensures ∙ given _ _ _ _ c.ok_or.ensures.value c.in_ok-rule.was

pub returns-then-len-ge-STATEMENTS : goal.returns-then-len-ge-STATEMENTS
returns-then-len-ge-STATEMENTS c =
    stated-many c.args.line.number (book_of c.args.line.text.now c.args.self.now) (built_shown (take c.args.line.end c.args.line.text.now) c.args.built.now) _ c.in_ok-rule.rule
    (declared (goal.at.returns-then-len-ge-STATEMENTS c).In_ok-rule) (omega (arith, c.if-len-ge-STATEMENTS.true, c.len.ensures.count, length-map (items c.args.self.now.statements) (making c.args.line.text.now (items c.args.self.now.words))))

pub returns : goal.returns
returns c =
    let text = c.args.line.text.now in
    let self = c.args.self.now in
    let B = built_shown (take c.args.line.end text) c.args.built.now in
    c.add_statement.ensures ∙
    stated-within c.args.line.number (book_of text self) B _ c.in_ok-rule.rule (declared (goal.at.returns c).In_ok-rule) _
    (omega (arith, c.if-len-ge-STATEMENTS.false, c.len.ensures.count, length-map (items self.statements) (making text (items self.words))))
    (ap (λ (xs : List ℕ). is_over (built_shown xs c.args.built.now)) (sym c.front-bytes.ensures) ∙ sym c.over_limit.ensures ∙ c.if-over_limit.false) refl
