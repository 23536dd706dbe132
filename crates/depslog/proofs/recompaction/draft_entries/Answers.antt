use Rattle.std.proofs.Common.{◌≡◌, ℕ, ◌+◌, ◌<◌, ◌≤◌, List, [], length, get_or, Some, None, sym, refl, ap, ◌∙◌, arith}
use Rattle.std.specs.Option.{option_map}
use Rattle.std.proofs.lemmas.Result.{err_from_is_err_and}
use Rattle.medium.specs.State.{all as all-of, with_drafted}
use Rattle.image.specs.Tables.{Table, bare}
use Rattle.image.specs.View.{entry_of}
use Rattle.image.specs.Learning.{view}
use Rattle.image.proofs.Learned.{view-kept}
use Rattle.notes.specs.Notes.{Note, note_bytes, note_table, notes_bytes, notes_table}
use Rattle.notes.specs.Compacting.{entries_of}
use Rattle.depslog.specs.Adding.{bytes_added}
use Rattle.depslog.specs.Drafting.{note_at}
use Rattle.depslog.proofs.Addings.{bytes_same, learned_same, may_learn}
use Rattle.depslog.proofs.Drafts.{left-on, left-room, left_broke, room-first, piece_drafted, all_drafted}
use Rattle.depslog.proofs.Telling.{rest_of, left-first, left-none, left-some, left-all, first-left, bytes-none, bytes-some}
use Rattle.depslog.proofs.recompaction.draft_entries.Goals as goal
use Rattle.depslog.proofs.recompaction.draft_entries.Goals.{in-Some+in_ok-put, in_default}

pub loop-id-init : goal.loop-id-init
loop-id-init g c =
    let t = view c.args.from.now in
    let e = c.clear.ensures in
    (left-first t (view c.clear.new.self) (view-kept c.args.from.now) e, ap (λ (u : Table). with_drafted (notes_bytes u (rest_of t 0)) (g.M.Medium.state c.args.medium.now)) e)

pub put-requires : goal.put-requires
put-requires g c =
    let st = g.M.Medium.state in
    let z = st c.args.medium.now in
    let s = st c.loop-id.medium in
    let t = view c.args.from.now in
    let u = view c.loop-id.into in
    let k = view-kept c.args.from.now in
    let id = c.loop-id.id in
    let h : id < length t.names = omega (arith, c.loop-id-test.true, c.path_count-id-end.ensures.count, c.loop-id.auto.id-end) in
    let x = entry_of c.in-Some.entry in
    let e : Some x ≡ get_or t.entries id None = ap (option_map entry_of) (sym c.in-Some.is) ∙ c.entry.ensures in
    let l = c.loop-id.invariant.0 in
    let f = first-left t u k id h l x e in
    let a = c.add_entry.new.added in
    let d = c.add_entry.ensures in
    let b = bytes-some t u k id h l x (note_table u (note_at t id x)) refl e in
    let n : Note = note_at t id x in
    let rest : List ℕ = notes_bytes u (rest_of t id) in
    let all : List ℕ = notes_bytes bare (entries_of t) in
    let room : length (all-of s.draft) + length (note_bytes u n) ≤ s.capacity =
    room-first (note_bytes u n) (notes_bytes (note_table u n) (rest_of t (id + 1))) rest s b (left-room rest s all z c.loop-id.invariant.1 c.requires.room) in
    record { on = left-on rest s all z c.loop-id.invariant.1 c.requires.on; room = omega (arith, room, ap length (bytes_same u (note_at t id x) a d f.1)) }

pub returns-in_err-put : goal.returns-in_err-put
returns-in_err-put g c =
    let st = g.M.Medium.state in
    let p = err_from_is_err_and c.from_residual.result c.from_residual.ensures.1 in
    rw (p.1, p.2) (record {
      drafted = left_broke _ (st c.loop-id.medium) _ (st c.args.medium.now) c.loop-id.invariant.1 (bytes_added c.add_entry.new.added) c.in_err-put.field-0.0 (st c.put.new.medium) c.requires.on c.in_err-put.ensures;
      known = tt;
    })

pub learn-requires : goal.learn-requires
learn-requires g c =
    let t = view c.args.from.now in
    let u = view c.loop-id.into in
    let k = view-kept c.args.from.now in
    let id = c.loop-id.id in
    let h : id < length t.names = omega (arith, c.loop-id-test.true, c.path_count-id-end.ensures.count, c.loop-id.auto.id-end) in
    let x = entry_of c.in-Some.entry in
    let e : Some x ≡ get_or t.entries id None = ap (option_map entry_of) (sym c.in-Some.is) ∙ c.entry.ensures in
    let f = first-left t u k id h c.loop-id.invariant.0 x e in
    may_learn u (note_at t id x) c.add_entry.new.added c.add_entry.ensures f.1 f.0

pub loop-id-preserved : goal.loop-id-preserved
loop-id-preserved g c =
    let st = g.M.Medium.state in
    let z = st c.args.medium.now in
    let s = st c.loop-id.medium in
    let m = st c.match-entry.medium in
    let t = view c.args.from.now in
    let u = view c.loop-id.into in
    let v = view c.match-entry.into in
    let k = view-kept c.args.from.now in
    let id = c.loop-id.id in
    let h : id < length t.names = omega (arith, c.loop-id-test.true, c.path_count-id-end.ensures.count, c.loop-id.auto.id-end) in
    let l = c.loop-id.invariant.0 in
    elim c.match-entry.branch [
      | in-Some+in_ok-put w ↦
          let x = entry_of w.in-Some.entry in
          let e : Some x ≡ get_or t.entries id None = ap (option_map entry_of) (sym w.in-Some.is) ∙ c.entry.ensures in
          let f = first-left t u k id h l x e in
          let a = w.add_entry.new.added in
          let n = w.add_entry.ensures in
          let d = ap view w.into-is ∙ w.learn.ensures ∙ learned_same u (note_at t id x) a n f.1 in
          let b : m ≡ with_drafted (note_bytes u (note_at t id x)) s = ap st w.medium-is ∙ w.in_ok-put.ensures.after ∙ ap (λ (bs : List ℕ). with_drafted bs s) (bytes_same u (note_at t id x) a n f.1) in
          (left-some t u k id h l x v d e, piece_drafted _ _ _ _ s m z (bytes-some t u k id h l x v d e) c.loop-id.invariant.1 b)
      | in_default w ↦
          let e : None ≡ get_or t.entries id None = ap (option_map entry_of) (sym w.in_default.is) ∙ c.entry.ensures in
          let d = ap view w.into-is in
          let b = bytes-none t u k id h l v d e in
          (left-none t u k id h l v d e, ap (with_drafted (notes_bytes v (rest_of t (id + 1)))) (ap st w.medium-is) ∙ ap (λ (bs : List ℕ). with_drafted bs s) (sym b) ∙ c.loop-id.invariant.1)
    ]

pub returns : goal.returns
returns g c =
    let st = g.M.Medium.state in
    let z = st c.args.medium.now in
    let s = st c.loop-id.medium in
    let t = view c.args.from.now in
    let u = view c.loop-id.into in
    let left : length t.names ≤ c.loop-id.id = omega (arith, c.loop-id-test.false, c.path_count-id-end.ensures.count, c.loop-id.auto.id-end) in
    let r : rest_of t c.loop-id.id ≡ [] = left-all t c.loop-id.id left in
    record {
      drafted = record { on = c.requires.on; fits = tt; after = all_drafted s _ z (ap (λ (ns : List Note). with_drafted (notes_bytes u ns) s) (sym r) ∙ c.loop-id.invariant.1) };
      known = sym (ap (notes_table u) r) ∙ c.loop-id.invariant.0.table;
    }
