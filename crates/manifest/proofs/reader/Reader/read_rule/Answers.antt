use Rattle.std.proofs.Common.{◌≡◌, ℕ, List, length, drop, Some, sym, ap, ◌∙◌, subst}
use Rattle.std.specs.Option.{option_map}
use Rattle.words.specs.Spelling.{name_at}
use Rattle.words.specs.Tokens.{tokens}
use Rattle.manifest.specs.Building.{rule_of}
use Rattle.manifest.specs.Books.{read_rule}
use Rattle.manifest.specs.Groups.{word_name, WordSums}
use Rattle.manifest.specs.Kept.{book_of}
use Rattle.words.proofs.Oks.{given}
use Rattle.manifest.proofs.Stores.{name-within}
use Rattle.manifest.proofs.reader.Reader.read_rule.Goals as goal
use Rattle.manifest.proofs.reader.Reader.read_rule.Goals.{In_ok-word}

-- the word that was read
read : (c : In_ok-word) → c.rule_at.result ≡ Some c.in_ok-word.word
read c = given _ _ _ _ c.ok_or.ensures.value c.in_ok-word.was

sums : (c : In_ok-word) → WordSums c.front.result.now (Some c.in_ok-word.word)
sums c = subst (WordSums c.front.result.now) (read c) c.rule_at.ensures.sums

-- the name in the line is the name in the text
named : (c : In_ok-word) → name_at c.front.result.now c.in_ok-word.word.place ≡ name_at c.args.line.text.now c.in_ok-word.word.place
named c =
    let w = c.in_ok-word.word in
    let k = subst (λ (xs : List ℕ). WordSums xs (Some w)) c.front.ensures (sums c) in
    ap (λ (xs : List ℕ). name_at xs w.place) c.front.ensures ∙ name-within c.args.line.text.now c.args.line.end w.place k.1

pub declare-requires : goal.declare-requires
declare-requires c = let d = (goal.at.declare-requires c).In_ok-word in (sums d).0 ∙ ap length (named d)

pub returns : goal.returns
returns c =
    let d = (goal.at.returns c).In_ok-word in
    let said = ap (option_map (word_name c.front.result.now)) (sym (read d)) ∙ c.rule_at.ensures.said in
    c.declare.ensures ∙
    ap (read_rule (book_of c.args.line.text.now c.args.self.now)) (ap (λ (n : List ℕ). Some n) (sym (named d)) ∙ said ∙ ap (λ (xs : List ℕ). rule_of (tokens (drop c.args.line.at xs))) c.front.ensures)
