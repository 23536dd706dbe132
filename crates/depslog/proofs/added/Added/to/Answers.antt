use Rattle.std.proofs.Common.{ℕ, ◌≤◌, List, map, length, ap, ◌∙◌, subst, arith}
use Rattle.std.proofs.lemmas.Bool.{and_parts}
use Rattle.terms.specs.Lists.{every}
use Rattle.terms.specs.Names.{is_name}
use Rattle.terms.specs.Places.{at_place}
use Rattle.image.specs.Learning.{view}
use Rattle.depslog.specs.Adding.{bare_note, Adds}
use Rattle.depslog.proofs.Appends.{name_among}
use Rattle.depslog.proofs.Addings.{inputs_so_far, next_input, all_inputs}
use Rattle.depslog.proofs.added.Added.to.Goals as goal

pub loop-place-init : goal.loop-place-init
loop-place-init c =
    let n = c.args.note.now in
    (subst (λ (o : List ℕ). Adds (view c.args.table.now) (bare_note o n.mtime) c.begin.new.self) c.of.ensures c.begin.ensures.adds, omega (arith, c.begin.ensures.count))

pub extend-requires-clause-named : goal.extend-requires-clause-named
extend-requires-clause-named c =
    let n = c.args.note.now in
    let at = at_place n.bytes.now in
    let k = c.loop-place.place-index in
    let q = and_parts (is_name (at n.output)) (every is_name (map at n.inputs.now)) c.requires.named in
    ap is_name c.of-in-loop-place.ensures ∙ name_among at n.inputs.now k _ q.1 c.loop-place-test.true

pub extend-requires-clause-names : goal.extend-requires-clause-names
extend-requires-clause-names c = omega (arith, c.loop-place.invariant.1, c.loop-place-test.true, c.requires.few)

pub extend-requires-clause-inputs : goal.extend-requires-clause-inputs
extend-requires-clause-inputs c =
    let n = c.args.note.now in
    let at = at_place n.bytes.now in
    let k = c.loop-place.place-index in
    let h : k ≤ length n.inputs.now = omega (arith, c.loop-place-test.true) in
    omega (arith, inputs_so_far (view c.args.table.now) (at n.output) n.mtime at n.inputs.now k c.loop-place.self h c.loop-place.invariant.0, c.loop-place-test.true, c.requires.few)

pub loop-place-preserved : goal.loop-place-preserved
loop-place-preserved c =
    let n = c.args.note.now in
    let at = at_place n.bytes.now in
    let k = c.loop-place.place-index in (
      next_input (view c.args.table.now) (at n.output) n.mtime at n.inputs.now k _ c.of-in-loop-place.result.now c.loop-place.self c.extend.new.self c.loop-place-test.true c.of-in-loop-place.ensures c.extend.ensures.adds c.loop-place.invariant.0,
      omega (arith, c.extend.ensures.count, c.loop-place.invariant.1),
    )

pub returns : goal.returns
returns c =
    let n = c.args.note.now in
    let at = at_place n.bytes.now in
    all_inputs (view c.args.table.now) (at n.output) n.mtime at n.inputs.now c.loop-place.place-index c.loop-place.self c.loop-place-test.false c.loop-place.invariant.0
