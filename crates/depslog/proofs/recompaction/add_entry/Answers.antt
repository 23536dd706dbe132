use Rattle.std.proofs.Common.{◌≡◌, ℕ, ◌≤◌, true, ltb, List, map, length, ap, ◌∙◌, subst, arith}
use Rattle.terms.specs.Lists.{every}
use Rattle.terms.specs.Names.{is_name}
use Rattle.image.specs.Learning.{view}
use Rattle.image.proofs.Learned.{view-kept}
use Rattle.notes.specs.Notes.{name_of}
use Rattle.notes.proofs.Refits.{name_sound}
use Rattle.depslog.specs.Adding.{bare_note, Adds}
use Rattle.depslog.proofs.Appends.{name_among}
use Rattle.depslog.proofs.Addings.{noted, inputs_so_far, next_input, all_inputs}
use Rattle.depslog.proofs.Telling.{all_named}
use Rattle.depslog.proofs.recompaction.add_entry.Goals as goal

pub begin-requires : goal.begin-requires
begin-requires c = ap is_name c.name_of.ensures ∙ (name_sound (view c.args.from.now) (view-kept c.args.from.now) c.args.id c.requires.id).0

pub loop-input-init : goal.loop-input-init
loop-input-init c =
    let B : List ℕ → ℕ → Type 0 = λ o m. Adds (view c.args.into.now) (bare_note o m) c.begin.new.self in
    (subst (B (name_of (view c.args.from.now) c.args.id)) c.mtime.ensures (subst (λ (o : List ℕ). B o c.mtime.result) c.name_of.ensures c.begin.ensures.adds), omega (arith, c.begin.ensures.count))

pub extend-requires-clause-named : goal.extend-requires-clause-named
extend-requires-clause-named c =
    let t = view c.args.from.now in
    let xs = c.inputs-input-items.result.now in
    let known : every (λ i. ltb i (length t.names)) xs ≡ true = ap (every (λ i. ltb i (length t.names))) c.inputs-input-items.ensures.ids ∙ c.requires.ids in
    ap is_name c.name_of-in-loop-input.ensures ∙ name_among (name_of t) xs c.loop-input.input-index _ (all_named t (view-kept c.args.from.now) xs known) c.loop-input-test.true

pub extend-requires-clause-names : goal.extend-requires-clause-names
extend-requires-clause-names c = omega (arith, c.loop-input.invariant.1, c.loop-input-test.true, c.inputs-input-items.ensures.few)

pub extend-requires-clause-inputs : goal.extend-requires-clause-inputs
extend-requires-clause-inputs c =
    let t = view c.args.from.now in
    let xs = c.inputs-input-items.result.now in
    let k = c.loop-input.input-index in
    let h : k ≤ length xs = omega (arith, c.loop-input-test.true) in
    omega (
      arith,
      inputs_so_far (view c.args.into.now) (name_of t c.args.id) c.args.entry.now.mtime (name_of t) xs k c.loop-input.added h c.loop-input.invariant.0,
      c.loop-input-test.true,
      c.inputs-input-items.ensures.few,
    )

pub loop-input-preserved : goal.loop-input-preserved
loop-input-preserved c =
    let t = view c.args.from.now in
    let xs = c.inputs-input-items.result.now in
    let k = c.loop-input.input-index in (
      next_input (view c.args.into.now) (name_of t c.args.id) c.args.entry.now.mtime (name_of t) xs k _ c.name_of-in-loop-input.result.now c.loop-input.added c.extend.new.self c.loop-input-test.true
          c.name_of-in-loop-input.ensures c.extend.ensures.adds c.loop-input.invariant.0,
      omega (arith, c.extend.ensures.count, c.loop-input.invariant.1),
    )

pub returns : goal.returns
returns c =
    let t = view c.args.from.now in
    let xs = c.inputs-input-items.result.now in
    let u = view c.args.into.now in
    let o = name_of t c.args.id in
    let m = c.args.entry.now.mtime in
    subst (λ (ids : List ℕ). Adds u (noted o m (map (name_of t) ids)) c.loop-input.added) c.inputs-input-items.ensures.ids
    (all_inputs u o m (name_of t) xs c.loop-input.input-index c.loop-input.added c.loop-input-test.false c.loop-input.invariant.0)
