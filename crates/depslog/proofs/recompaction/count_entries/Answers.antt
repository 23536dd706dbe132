use Rattle.std.proofs.Common.{◌≡◌, ◌+◌, ◌<◌, Some, None, length, get_or, sym, ap, ◌∙◌, arith}
use Rattle.std.specs.Option.{option_map}
use Rattle.std.proofs.lemmas.List.{length-append}
use Rattle.image.specs.Tables.{Table}
use Rattle.image.specs.View.{entry_of}
use Rattle.image.specs.Learning.{view}
use Rattle.image.proofs.Learned.{view-kept}
use Rattle.notes.specs.Notes.{note_bytes, notes_bytes}
use Rattle.depslog.specs.Drafting.{note_at}
use Rattle.depslog.proofs.Addings.{bytes_same, learned_same, may_learn}
use Rattle.depslog.proofs.Telling.{rest_of, left-first, left-none, left-some, first-left, bytes-some, bytes-none}
use Rattle.depslog.proofs.recompaction.count_entries.Goals as goal
use Rattle.depslog.proofs.recompaction.count_entries.Goals.{in-Some, in_default}

pub loop-id-init : goal.loop-id-init
loop-id-init c =
    let t = view c.args.from.now in
    let e = c.clear.ensures in
    (left-first t (view c.clear.new.self) (view-kept c.args.from.now) e, ap (λ (u : Table). 16 + length (notes_bytes u (rest_of t 0))) e ∙ omega arith, omega arith)

pub learn-requires : goal.learn-requires
learn-requires c =
    let t = view c.args.from.now in
    let u = view c.loop-id.into in
    let k = view-kept c.args.from.now in
    let id = c.loop-id.id in
    let h : id < length t.names = omega (arith, c.loop-id-test.true, c.path_count-id-end.ensures.count, c.loop-id.auto.id-end) in
    let x = entry_of c.in-Some.entry in
    let e : Some x ≡ get_or t.entries id None = ap (option_map entry_of) (sym c.in-Some.is) ∙ c.entry.ensures in
    let f = first-left t u k id h c.loop-id.invariant.0 x e in
    may_learn u (note_at t id x) c.add_entry.new.added c.add_entry.ensures f.1 f.0

pub loop-id-preserved : goal.loop-id-preserved
loop-id-preserved c =
    let t = view c.args.from.now in
    let u = view c.loop-id.into in
    let v = view c.match-entry.into in
    let k = view-kept c.args.from.now in
    let id = c.loop-id.id in
    let h : id < length t.names = omega (arith, c.loop-id-test.true, c.path_count-id-end.ensures.count, c.loop-id.auto.id-end) in
    let l = c.loop-id.invariant.0 in
    elim c.match-entry.branch [
      | in-Some w ↦
          let x = entry_of w.in-Some.entry in
          let e : Some x ≡ get_or t.entries id None = ap (option_map entry_of) (sym w.in-Some.is) ∙ c.entry.ensures in
          let f = first-left t u k id h l x e in
          let a = w.add_entry.new.added in
          let d = w.add_entry.ensures in
          let g = ap view w.into-is ∙ w.learn.ensures ∙ learned_same u (note_at t id x) a d f.1 in
          let b = ap length (bytes-some t u k id h l x v g e) ∙ length-append (note_bytes u (note_at t id x)) (notes_bytes v (rest_of t (id + 1))) in
          let n = w.length-total.ensures.value ∙ ap length (bytes_same u (note_at t id x) a d f.1) in
          (left-some t u k id h l x v g e, omega (arith, w.total-is, b, n, c.loop-id.invariant.1), omega (arith, w.total-is, w.length-total.ensures.bound, c.loop-id.invariant.2))
      | in_default w ↦
          let e : None ≡ get_or t.entries id None = ap (option_map entry_of) (sym w.in_default.is) ∙ c.entry.ensures in
          let d = ap view w.into-is in
          let b = ap length (bytes-none t u k id h l v d e) in
          (left-none t u k id h l v d e, omega (arith, w.total-is, b, c.loop-id.invariant.1), omega (arith, w.total-is, c.loop-id.invariant.2))
    ]
