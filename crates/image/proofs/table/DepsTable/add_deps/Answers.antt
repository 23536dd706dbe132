use Rattle.std.proofs.Common.{ℕ, Bool, true, ltb, length, vec_items, vec_len, sym, ap, ◌∙◌, arith}
use Rattle.std.proofs.lemmas.Bool.{and_parts, ltb-true, cond-true}
use Rattle.terms.specs.Lists.{every}
use Rattle.image.specs.Bytes.{deps}
use Rattle.image.specs.Reading.{is_known}
use Rattle.image.specs.Tables.{Table, learn}
use Rattle.image.specs.View.{entry_of}
use Rattle.image.specs.Learning.{view, takes_deps}
use Rattle.image.proofs.Learned.{names-long}
use Rattle.image.proofs.Rows.{entered-table, entered-apart, entered-fitting}
use Rattle.image.proofs.table.DepsTable.add_deps.Goals as goal

pub index_mut-requires : goal.index_mut-requires
index_mut-requires c =
    let t = c.args.self.now in
    let names = (view t).names in
    let q = and_parts (is_known names c.args.output) (every (is_known names) (entry_of c.args.entry.now).inputs) c.requires in
    omega (arith, names-long t, ltb-true c.args.output (length names) q.0)

pub invariant_of-self : goal.invariant_of-self
invariant_of-self c =
    let t = c.args.self.now in
    let e = c.args.entry.now in
    let names = (view t).names in
    let r = c.index_mut.result.now in
    let q = and_parts (is_known names c.args.output) (every (is_known names) (entry_of e).inputs) c.requires in
    record {
      roomy = t.roomy;
      few = t.few;
      apart = entered-apart (vec_items t.rows) c.args.output r e c.index_mut.ensures.value t.apart;
      fitting = entered-fitting (vec_items t.rows) c.args.output r e (vec_len t.rows) t.fitting (ap (λ (k : ℕ). every (λ id. ltb id k) (entry_of e).inputs) (sym (names-long t)) ∙ q.1);
    }

pub returns : goal.returns
returns c =
    let t = c.args.self.now in
    let o = c.args.output in
    let e = c.args.entry.now in
    let F : Table → Bool × Table = λ u. (true, u) in
    ap F (entered-table (vec_items t.rows) o c.index_mut.result.now e c.index_mut.ensures.value) ∙
    sym (cond-true (takes_deps (view t) o (entry_of e)) (F (learn (view t) (deps o (entry_of e).mtime (entry_of e).inputs))) _ c.requires)
