use Rattle.std.proofs.Common.{◌≡◌, ℕ, ◌<◌, false, List, map, length, Some, None, Ok, Result, sym, ap, ◌∙◌, arith}
use Rattle.std.proofs.lemmas.List.{length-map, map_push}
use Rattle.lists.specs.Grown.{items, room}
use Rattle.words.specs.Spelling.{unescaped, name_at}
use Rattle.manifest.specs.declared.fault.Fault.{Fault}
use Rattle.manifest.specs.declared.owner.Owner.TheVariants.{LastRule}
use Rattle.manifest.specs.declared.rule.Rule.{Rule}
use Rattle.manifest.specs.Books.{Declaration, Reading, rule_number}
use Rattle.manifest.specs.Kept.{book_of}
use Rattle.manifest.specs.Views.{declaration, making}
use Rattle.lists.proofs.Pushed.{pushed}
use Rattle.manifest.proofs.Declares.{none_from, declared_many, declared-long, declared-new}
use Rattle.manifest.proofs.reader.Reader.declare.Goals as goal
use Rattle.manifest.proofs.reader.Reader.declare.Goals.{Else-is_some}

-- the name is not declared yet
new : (c : Else-is_some) → rule_number (map (declaration c.args.text.now) (items c.args.self.now.rules)) (name_at c.args.text.now c.args.word.place) ≡ None
new c =
    let D = declaration c.args.text.now in
    ap (λ (bs : List ℕ). rule_number (map D (items c.args.self.now.rules)) (unescaped bs)) (sym c.of.ensures) ∙
    ap (λ (rs : List Rule). rule_number (map D rs) (unescaped c.of.result.now)) (sym c.as_slice.ensures) ∙
    sym c.rule_number.ensures ∙ none_from c.rule_number.result (sym c.is_some.ensures ∙ c.if-is_some.false)

pub returns-then-len-ge-RULES : goal.returns-then-len-ge-RULES
returns-then-len-ge-RULES c =
    declared_many (book_of c.args.text.now c.args.self.now) (name_at c.args.text.now c.args.word.place) _ (new (goal.at.returns-then-len-ge-RULES c).Else-is_some)
    (omega (arith, c.if-len-ge-RULES.true, c.len.ensures.count, length-map (items c.args.self.now.rules) (declaration c.args.text.now)))

pub returns-then-word-gt-LONGEST : goal.returns-then-word-gt-LONGEST
returns-then-word-gt-LONGEST c =
    declared-long (book_of c.args.text.now c.args.self.now) (name_at c.args.text.now c.args.word.place) _ (new (goal.at.returns-then-word-gt-LONGEST c).Else-is_some)
    (omega (arith, c.if-word-gt-LONGEST.true, c.requires))

pub returns : goal.returns
returns c =
    let text = c.args.text.now in
    let self = c.args.self.now in
    let D = declaration text in
    let r : Rule = record { name = c.args.word.place; keeps = false } in
    let h : length (items self.rules) < room self.rules = omega (arith, c.if-len-ge-RULES.false, c.len.ensures.count, self.sound.for_rules) in
    let e = pushed (items self.rules) _ r (room self.rules) h c.push.ensures.items in
    let F : List Declaration → Result Reading Fault = λ rs. Ok (record { book = record { rules = rs; statements = map (making text (items self.words)) (items self.statements) }; owner = Some LastRule }) in
    ap F (ap (map D) e ∙ map_push D (items self.rules) r) ∙
    declared-new (book_of text self) (name_at text c.args.word.place) _ (new (goal.at.returns c).Else-is_some)
    (omega (arith, c.if-len-ge-RULES.false, c.len.ensures.count, length-map (items self.rules) D)) (omega (arith, c.if-word-gt-LONGEST.false, c.requires))
