use Rattle.std.proofs.Common.{◌≡◌, ℕ, ◌+◌, ◌<◌, List, [], ◌∷◌, map, length, take, drop, Some, Ok, Err, Result, sym, ap, ◌∙◌, subst, arith}
use Rattle.std.proofs.lemmas.List.{length_push, map_push, take_at}
use Rattle.std.proofs.lemmas.Bool.{cond-true, cond-false}
use Rattle.terms.specs.declared.Place.{Place}
use Rattle.terms.specs.Lists.{◌▷◌}
use Rattle.lists.specs.Grown.{items, room}
use Rattle.words.specs.declared.line.Line.{Line}
use Rattle.words.specs.Spelling.{name_at}
use Rattle.manifest.specs.declared.built.Built.{Built}
use Rattle.manifest.specs.declared.fault.Fault.{Fault}
use Rattle.manifest.specs.declared.fault.Fault.TheVariants.{MadeTwice}
use Rattle.manifest.specs.declared.owner.Owner.TheVariants.{LastStatement}
use Rattle.manifest.specs.declared.rule.Statement.{Statement}
use Rattle.manifest.specs.Books.{Making, Reading, twice}
use Rattle.manifest.specs.Groups.{group_names, built_shown}
use Rattle.manifest.specs.Kept.{book_of}
use Rattle.manifest.specs.Sound.{Within}
use Rattle.manifest.specs.Views.{declaration, making}
use Rattle.manifest.proofs.Added.{Added, longer, added, makings_same, within_more, within_limits}
use Rattle.lists.proofs.Pushed.{pushed}
use Rattle.manifest.proofs.reader.Reader.add_statement.Goals as goal
use Rattle.manifest.proofs.reader.Reader.add_statement.Goals.{After-push, After-made_twice}

pub store-requires-2 : goal.store-requires-2
store-requires-2 c =
    let W = take c.args.line.end c.args.line.text.now in
    let b = built_shown W c.args.built.now in
    let k = within_limits b c.requires.limit in
    omega (arith, k.0, k.1, longer _ _ _ _ c.store.ensures.stored, c.store.ensures.room, c.args.self.now.sound.packed, c.args.self.now.sound.for_words, c.requires.few)

pub store-requires-3 : goal.store-requires-3
store-requires-3 c =
    let W = take c.args.line.end c.args.line.text.now in
    let b = built_shown W c.args.built.now in
    let k = within_limits b c.requires.limit in
    omega (arith, k.0, k.1, longer _ _ _ _ c.store.ensures.stored, c.store.ensures.room, longer _ _ _ _ c.store-2.ensures.stored, c.store-2.ensures.room, c.args.self.now.sound.packed, c.args.self.now.sound.for_words, c.requires.few)

pub store-requires-4 : goal.store-requires-4
store-requires-4 c =
    let W = take c.args.line.end c.args.line.text.now in
    let b = built_shown W c.args.built.now in
    let k = within_limits b c.requires.limit in
    omega (
      arith,
      k.0,
      k.1,
      longer _ _ _ _ c.store.ensures.stored,
      c.store.ensures.room,
      longer _ _ _ _ c.store-2.ensures.stored,
      c.store-2.ensures.room,
      longer _ _ _ _ c.store-3.ensures.stored,
      c.store-3.ensures.room,
      c.args.self.now.sound.packed,
      c.args.self.now.sound.for_words,
      c.requires.few,
    )

-- the statement as it is kept
abbrev statement : Line → ℕ → ℕ → Built → Statement
statement line rule first b =
    record { line = line.number; rule = rule; first = first; outputs = b.outputs.count; plain = b.inputs.plain.count; implicit = b.inputs.implicit.count; order = b.inputs.order.count }

-- the words of the statement stand behind the others
abbrev AddedWords : Line → List Place → List Place → Built → Type 0
AddedWords line old new b =
    let W = take line.end line.text.now in
    Added line.text.now old new (group_names W b.outputs) (group_names W b.inputs.plain) (group_names W b.inputs.implicit) (group_names W b.inputs.order)

words : (c : After-push) → AddedWords c.args.line (items c.args.self.now.words) (items c.store-4.new.words) c.args.built.now
words c = added _ _ _ _ _ _ _ _ _ _ c.store.ensures.stored c.store-2.ensures.stored c.store-3.ensures.stored c.store-4.ensures.stored

-- the statement stands behind the others
stands : (c : After-push) → items c.push.new.self ≡ items c.args.self.now.statements ▷ statement c.args.line c.args.rule c.len-first.result c.args.built.now
stands c =
    let ss = items c.args.self.now.statements in
    let h : length ss < room c.args.self.now.statements = omega (arith, c.requires.few, c.args.self.now.sound.for_statements) in
    pushed ss _ _ (room c.args.self.now.statements) h c.push.ensures.items

-- whether an output is made twice
judged : (c : After-made_twice) → AddedWords c.args.line (items c.args.self.now.words) (items c.store-4.new.words) c.args.built.now →
    items c.push.new.self ≡ items c.args.self.now.statements ▷ statement c.args.line c.args.rule c.len-first.result c.args.built.now →
    twice (book_of c.args.line.text.now c.args.self.now).statements (group_names (take c.args.line.end c.args.line.text.now) c.args.built.now.outputs) ≡ c.made_twice.result
judged c a s =
    let text = c.args.line.text.now in
    let self = c.args.self.now in
    let g = c.args.built.now.outputs in
    let W = take c.args.line.end text in
    let ss = items self.statements in
    let new = items c.store-4.new.words in
    let m = makings_same text (items self.words) new a.behind ss a.extends self.sound.within in
    let o = a.outputs_are c.len-first.result g.count c.len-first.ensures.count c.requires.sums.0.count in
    let others : c.part-others.result.now ≡ ss =
    c.part-others.ensures ∙ ap (take c.len-before.result) (c.as_slice.ensures ∙ s) ∙ take_at ss (statement c.args.line c.args.rule c.len-first.result c.args.built.now ∷ []) c.len-before.result (sym c.len-before.ensures.count) in
    ap (λ (ms : List Making). twice ms (group_names W g)) (sym m) ∙ ap (twice (map (making text new) ss)) (sym o) ∙
    ap (λ (ps : List Place). twice (map (making text ps) ss) (map (name_at text) (take g.count (drop c.len-first.result ps)))) (sym c.as_slice-words.ensures) ∙
    ap (λ (ps : List Place). twice (map (making text c.as_slice-words.result.now) ss) (map (name_at text) ps)) (sym c.part-outputs.ensures) ∙
    ap (λ (xs : List Statement). twice (map (making text c.as_slice-words.result.now) xs) (map (name_at text) c.part-outputs.result.now)) (sym others) ∙
    sym c.made_twice.ensures

pub invariant_of-self : goal.invariant_of-self
invariant_of-self c =
    let self = c.args.self.now in
    let b = c.args.built.now in
    let ss = items self.statements in
    let new = items c.store-4.new.words in
    let d = (goal.at.invariant_of-self c).After-push in
    let a = words d in
    let s = statement c.args.line c.args.rule c.len-first.result b in
    let k = within_limits (built_shown (take c.args.line.end c.args.line.text.now) b) c.requires.limit in
    let l : length (ss ▷ s) ≡ length ss + 1 = length_push ss s in
    let sums = c.requires.sums in
    record {
      sound = record {
        for_rules = self.sound.for_rules;
        for_statements = omega (arith, c.push.ensures.room, self.sound.for_statements);
        for_words = omega (arith, c.store.ensures.room, c.store-2.ensures.room, c.store-3.ensures.room, c.store-4.ensures.room, self.sound.for_words);
        packed = omega (arith, a.long, ap length (stands d), l, k.0, k.1, self.sound.packed);
        within = subst (Within (length new)) (sym (stands d))
            (within_more (length (items self.words)) (length new) ss s (omega (arith, a.long)) self.sound.within
            (omega (arith, a.long, c.len-first.ensures.count, sums.0.count, sums.1.0.count, sums.1.1.count, sums.1.2.count)));
      };
    }

pub returns-then-made_twice : goal.returns-then-made_twice
returns-then-made_twice c = let d = (goal.at.returns-then-made_twice c).After-push in sym (cond-true _ (Err MadeTwice) _ (judged (goal.at.returns-then-made_twice c).After-made_twice (words d) (stands d) ∙ c.if-made_twice.true))

pub returns : goal.returns
returns c =
    let text = c.args.line.text.now in
    let self = c.args.self.now in
    let b = c.args.built.now in
    let ss = items self.statements in
    let new = items c.store-4.new.words in
    let d = (goal.at.returns c).After-push in
    let a = words d in
    let s = statement c.args.line c.args.rule c.len-first.result b in
    let sums = c.requires.sums in
    let m = makings_same text (items self.words) new a.behind ss a.extends self.sound.within in
    let is = a.making_is c.args.line.number c.args.rule s.first s.outputs s.plain s.implicit s.order c.len-first.ensures.count sums.0.count sums.1.0.count sums.1.1.count sums.1.2.count in
    let F : List Making → Result Reading Fault = λ ms. Ok (record { book = record { rules = map (declaration text) (items self.rules); statements = ms }; owner = Some LastStatement }) in
    ap F (ap (map (making text new)) (stands d) ∙ map_push (making text new) ss s ∙ ap (λ (ms : List Making). ms ▷ making text new s) m ∙ ap (λ (x : Making). map (making text (items self.words)) ss ▷ x) is) ∙
    sym (cond-false _ (Err MadeTwice) _ (judged (goal.at.returns c).After-made_twice a (stands d) ∙ c.if-made_twice.false))
