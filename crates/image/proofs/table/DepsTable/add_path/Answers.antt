use Rattle.std.proofs.Common.{◌≡◌, ℕ, Bool, true, false, List, map, ◌+◌, vec_items, vec_len, ap, ◌∙◌, arith}
use Rattle.terms.specs.Lists.{every, is_in}
use Rattle.image.specs.Bytes.{path}
use Rattle.image.specs.Tables.{Table, learn}
use Rattle.image.specs.Kept.{distinct, fits_entry}
use Rattle.image.specs.View.{text, name_in, entry_in, table_of}
use Rattle.image.specs.Learning.{view}
use Rattle.image.proofs.Learned.{names-long, name-made, path-taken}
use Rattle.image.proofs.Rows.{named-table, named-apart, named-fitting}
use Rattle.image.proofs.table.DepsTable.add_path.Goals as goal

pub push_reserved-requires : goal.push_reserved-requires
push_reserved-requires c = omega (arith, names-long c.args.self.now, c.args.self.now.roomy, c.requires.room)

pub invariant_of-self : goal.invariant_of-self
invariant_of-self c =
    let t = c.args.self.now in
    let rows = vec_items t.rows in
    let n = c.in-Some.name in
    let m = name-made c.args.name.now n c.in-Some.ensures in
    let u : is_in (text n) (view t).names ≡ false = ap (λ (xs : List ℕ). is_in xs (view t).names) m.0 ∙ c.requires.unknown in
    record {
      roomy = omega (arith, t.roomy, c.push_reserved.ensures.capacity);
      few = omega (arith, names-long t, c.requires.room, c.push_reserved.ensures.len);
      apart = ap (λ rs. distinct (map name_in rs)) c.push_reserved.ensures.items ∙ named-apart rows n t.apart u;
      fitting = ap (λ (k : ℕ). every (fits_entry k) (map entry_in (vec_items c.push_reserved.new.self))) c.push_reserved.ensures.len ∙
          ap (λ rs. every (fits_entry (vec_len t.rows + 1)) (map entry_in rs)) c.push_reserved.ensures.items ∙ named-fitting rows n (vec_len t.rows) t.fitting;
    }

pub returns : goal.returns
returns c =
    let t = view c.args.self.now in
    let rows = vec_items c.args.self.now.rows in
    let name = c.args.name.now in
    let m = name-made name c.in-Some.name c.in-Some.ensures in
    let e : table_of (vec_items c.push_reserved.new.self) ≡ learn t (path name) =
    ap table_of c.push_reserved.ensures.items ∙ named-table rows c.in-Some.name ∙ ap (λ (xs : List ℕ). learn t (path xs)) m.0 in
    let F : Table → Bool × Table = λ u. (true, u) in
    ap F e ∙ path-taken t name m.1 c.requires.unknown c.requires.room
