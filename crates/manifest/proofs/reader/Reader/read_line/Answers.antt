use Rattle.std.proofs.Common.{ℕ, List, take, drop, sym, ap, ◌∙◌}
use Rattle.std.proofs.lemmas.List.{drop-drop}
use Rattle.words.specs.Line.{line_bytes}
use Rattle.words.specs.Tokens.{tokens}
use Rattle.manifest.specs.Building.{rule_of, build_of}
use Rattle.manifest.specs.Books.{read_rule, read_build, read_as}
use Rattle.manifest.specs.Kept.{reading_of}
use Rattle.manifest.specs.Kinds.{kind_of}
use Rattle.manifest.proofs.reader.Reader.read_line.Goals as goal

pub returns-in-Rule : goal.returns-in-Rule
returns-in-Rule c =
    let W = take c.args.line.end c.args.line.text.now in
    let s = reading_of c.args.line.text.now c.args.self.now in
    rw c.from.ensures at c.read_rule.ensures ∙ ap (λ (bs : List ℕ). read_rule s.book (rule_of (tokens bs))) (sym (drop-drop 5 c.args.line.at W)) ∙
    ap (read_as c.args.line.number (line_bytes c.args.line) s) (c.in-Rule.ensures.kind ∙ ap (λ (xs : List ℕ). kind_of (drop c.args.line.at xs)) c.front.ensures)

pub returns-in-Build : goal.returns-in-Build
returns-in-Build c =
    let W = take c.args.line.end c.args.line.text.now in
    let s = reading_of c.args.line.text.now c.args.self.now in
    rw c.from-in-Build.ensures at c.read_build.ensures ∙ ap (λ (bs : List ℕ). read_build c.args.line.number s.book (build_of (tokens bs))) (sym (drop-drop 6 c.args.line.at W)) ∙
    ap (read_as c.args.line.number (line_bytes c.args.line) s) (c.in-Build.ensures.kind ∙ ap (λ (xs : List ℕ). kind_of (drop c.args.line.at xs)) c.front.ensures)
