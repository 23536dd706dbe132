use Rattle.std.proofs.Common.{ℕ, List, length, take, drop, sym, refl, ap, ◌∙◌, subst, arith}
use Rattle.std.specs.Result.{IsOk}
use Rattle.lists.specs.Grown.{items, room}
use Rattle.lists.proofs.Pushed.{taken}
use Rattle.words.specs.Spelling.{name_at}
use Rattle.words.specs.Tokens.{tokens}
use Rattle.manifest.specs.Building.{names_of}
use Rattle.manifest.specs.Left.{tokens_left}
use Rattle.manifest.proofs.Stores.{Storing, name-within, storing_long, storing_first, storing_more, storing_last}
use Rattle.manifest.proofs.store.store.Goals as goal

pub loop-word-init : goal.loop-word-init
loop-word-init c =
    let text = c.args.line.text.now in
    let old = items c.args.words.now in
    let all = names_of (tokens (drop c.args.at (take c.args.line.end text))) in
    let is = c.into_iter-word-iterator.ensures.into_iter_gives in
    let left = ap (λ s. names_of (tokens_left s)) is ∙ ap names_of c.of-word-items.ensures.left ∙ ap (λ (xs : List ℕ). names_of (tokens (drop c.args.at xs))) c.front.ensures in
    (tt, tt, ap (λ s. s.bytes.now) is ∙ c.of-word-items.ensures.same ∙ c.front.ensures, subst (λ (ns : List (List ℕ)). Storing text old old ns all) (sym left) (storing_first text old all), refl)

pub loop-word-preserved : goal.loop-word-preserved
loop-word-preserved c =
    let text = c.args.line.text.now in
    let i = c.loop-word.invariant in
    let k = c.in-Some.ensures.steps in
    let w = c.in-Some.word in
    let xs = c.loop-word.word-iterator.bytes.now in
    let old = items c.args.words.now in
    let so = items c.loop-word.words in
    let all = names_of (tokens (drop c.args.at (take c.args.line.end text))) in
    let here = ap (λ (ys : List ℕ). name_at ys w.place) i.2 ∙ name-within text c.args.line.end w.place (omega (arith, k.within, ap length i.2)) in
    let s = subst (λ (ns : List (List ℕ)). Storing text old so ns all) (ap names_of k.first) i.3 in (
      tt,
      tt,
      k.same ∙ i.2,
      storing_more text old so _ w.place (name_at xs w.place) (names_of (tokens_left c.next.new.self)) all (room c.loop-word.words) (sym here) c.push.ensures.items (omega (arith, c.requires, i.4)) s,
      c.push.ensures.room ∙ i.4,
    )

pub unwrap-requires : goal.unwrap-requires
unwrap-requires c =
    let text = c.args.line.text.now in
    let i = c.loop-word.invariant in
    let old = items c.args.words.now in
    let so = items c.loop-word.words in
    let all = names_of (tokens (drop c.args.at (take c.args.line.end text))) in
    let s = storing_long text old so _ all (subst (λ (ns : List (List ℕ)). Storing text old so ns all) (ap names_of c.in-Some.ensures.steps.first) i.3) in
    subst IsOk (sym (taken _ _ (length so) (room c.loop-word.words) (omega (arith, s, c.requires, i.4)) c.push.ensures.full)) refl

pub returns-clause-stored : goal.returns-clause-stored
returns-clause-stored c = storing_last c.args.line.text.now (items c.args.words.now) (items c.loop-word.words) _ _ c.in-None.ensures.steps.0 c.loop-word.invariant.3

pub returns-clause-room : goal.returns-clause-room
returns-clause-room c = c.loop-word.invariant.4
