use Rattle.std.proofs.Common.{◌^◌, ◌<◌, ◌≤◌, ◌∷◌, None, Ok, Err, length, sym, ap, ◌∙◌, subst, arith}
use Rattle.std.proofs.lemmas.Result.{err_from_is_err_and}
use Rattle.terms.specs.Few.{items}
use Rattle.image.specs.Tables.{Entry}
use Rattle.image.specs.Learning.{view}
use Rattle.notes.specs.Notes.{note_table}
use Rattle.notes.specs.Meant.{given_note}
use Rattle.depslog.specs.Adding.{names_added}
use Rattle.depslog.specs.NoteCall.{WrittenOn}
use Rattle.depslog.proofs.Addings.{bytes_same, learned_same, may_learn}
use Rattle.depslog.proofs.Noted.{names-good}
use Rattle.depslog.proofs.Appends.{texts_long}
use Rattle.depslog.proofs.NoteCases.{on, newly_all, newly_not, noted-bad, names_then, noted_many, noted_new, noted-fits}
use Rattle.depslog.proofs.log.Log.note.Goals as goal

pub returns-in_err-check_names : goal.returns-in_err-check_names
returns-in_err-check_names g c =
    let l = c.args.self.now in
    let n = c.args.note.now in
    let p = err_from_is_err_and c.from_residual.result c.from_residual.ensures.1 in
    rw (p.1, p.2) (noted-bad (view l.table) (g.M.Medium.state l.medium) n.bytes.now n.output n.mtime n.inputs.now l.open _ c.if-not-self.false c.if-note-gt64.false c.in_err-check_names.ensures)

pub to-requires-clause-named : goal.to-requires-clause-named
to-requires-clause-named g c =
    let n = c.args.note.now in
    (names-good n.bytes.now 0 (n.output ∷ n.inputs.now) None c.in_ok-check_names.ensures).0

pub returns-then-added-as_slice-gt256 : goal.returns-then-added-as_slice-gt256
returns-then-added-as_slice-gt256 g c =
    let l = c.args.self.now in
    let t = view l.table in
    let m = g.M.Medium.state l.medium in
    let n = c.args.note.now in
    let a = c.to.new.self in
    let d = c.to.ensures in
    let many = names_then t m n.bytes.now n.output n.mtime n.inputs.now (sym c.if-is_unchanged.ensures) (names_added a) d.names in
    noted_many t m n.bytes.now n.output n.mtime n.inputs.now l.open c.if-not-self.false c.if-note-gt64.false c.in_ok-check_names.ensures
    (omega (arith, many, texts_long (items a.names), ap length c.as_slice.ensures.items, d.first, c.if-added-as_slice-gt256.true))

pub learn-requires : goal.learn-requires
learn-requires g c =
    let l = c.args.self.now in
    let t = view l.table in
    let m = g.M.Medium.state l.medium in
    let n = c.args.note.now in
    let a = c.to.new.self in
    let d = c.to.ensures in
    let new = sym c.if-is_unchanged.ensures in
    let many = names_then t m n.bytes.now n.output n.mtime n.inputs.now new (names_added a) d.names in
    let few : length (note_table t (given_note n)).names ≤ 256 = omega (arith, many, texts_long (items a.names), ap length c.as_slice.ensures.items, d.first, c.if-added-as_slice-gt256.false) in
    let time : n.mtime < 2 ^ 64 = omega (arith, a.entry.timed, ap (λ (e : Entry). e.mtime) d.entry) in
    may_learn t (given_note n) a d new (noted-fits t m n.bytes.now n.output n.mtime n.inputs.now c.if-note-gt64.false time c.in_ok-check_names.ensures few)

pub returns-in-Ok : goal.returns-in-Ok
returns-in-Ok g c =
    let l = c.args.self.now in
    let t = view l.table in
    let m = g.M.Medium.state l.medium in
    let k = g.M.Medium.state c.append.new.medium in
    let n = c.args.note.now in
    let a = c.to.new.self in
    let d = c.to.ensures in
    let new = sym c.if-is_unchanged.ensures in
    let many = names_then t m n.bytes.now n.output n.mtime n.inputs.now new (names_added a) d.names in
    let few : length (note_table t (given_note n)).names ≤ 256 = omega (arith, many, texts_long (items a.names), ap length c.as_slice.ensures.items, d.first, c.if-added-as_slice-gt256.false) in
    let w = subst (λ bs. WrittenOn bs m (Ok tt) k) (bytes_same t (given_note n) a d new) c.in-Ok.ensures in
    let u = view c.learn.new.table in
    noted_new t m n.bytes.now n.output n.mtime n.inputs.now l.open (Ok tt) (on l.open u k) c.if-not-self.false c.if-note-gt64.false c.in_ok-check_names.ensures few new
    (newly_all t (given_note n) m k l.open u c.if-not-self.false w.0 w.1 (c.learn.ensures ∙ learned_same t (given_note n) a d new))

pub returns-in-Err : goal.returns-in-Err
returns-in-Err g c =
    let l = c.args.self.now in
    let t = view l.table in
    let m = g.M.Medium.state l.medium in
    let k = g.M.Medium.state c.append.new.medium in
    let n = c.args.note.now in
    let a = c.to.new.self in
    let d = c.to.ensures in
    let new = sym c.if-is_unchanged.ensures in
    let many = names_then t m n.bytes.now n.output n.mtime n.inputs.now new (names_added a) d.names in
    let few : length (note_table t (given_note n)).names ≤ 256 = omega (arith, many, texts_long (items a.names), ap length c.as_slice.ensures.items, d.first, c.if-added-as_slice-gt256.false) in
    let w = subst (λ bs. WrittenOn bs m (Err c.in-Err.fault) k) (bytes_same t (given_note n) a d new) c.in-Err.ensures in
    let q = c.refused.ensures in
    rw (q.medium, q.table)
    (noted_new t m n.bytes.now n.output n.mtime n.inputs.now l.open (Err c.refused.result) (on c.refused.new.self.open t k) c.if-not-self.false c.if-note-gt64.false c.in_ok-check_names.ensures few new
    (newly_not t (given_note n) m k l.open c.refused.new.self.open c.in-Err.fault c.refused.result c.if-not-self.false w q.refusal q.opened))
