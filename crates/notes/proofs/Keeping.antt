-- Tables keep what every table keeps as they learn writable records. Assumes nothing.
use Rattle.std.proofs.Common.{◌≡◌, ℕ, ◌+◌, ◌^◌, true, ◌&&◌, ltb, leb, List, [], ◌∷◌, ◌++◌, length, Some, None, refl, ap, ◌∙◌, arith}
use Rattle.std.proofs.lemmas.List.{length_push, length-set}
use Rattle.std.proofs.lemmas.Bool.{and_parts, and_from, lt-ltb, le-leb}
use Rattle.terms.specs.Lists.{every, ◌▷◌}
use Rattle.terms.specs.Names.{is_name}
use Rattle.image.specs.Bytes.{Record, path, deps}
use Rattle.image.specs.Tables.{Table, learn, learn_all}
use Rattle.image.specs.Kept.{fits_entry, Kept}
use Rattle.image.specs.Laws.{Writable, AllWritable}
use Rattle.image.proofs.Tests.{every_push, every_set, every_more}
use Rattle.image.proofs.Learned.{distinct_push, fits_more}

pub learn-kept : (t : Table) (r : Record) → Kept t → Writable t.names r → Kept (learn t r)
learn-kept t (path name) k w =
    let l : length (t.names ▷ name) ≡ length t.names + 1 = length_push t.names name in
    record {
      few = omega (arith, l, w.2);
      named = every_push is_name t.names name k.named w.0;
      apart = distinct_push t.names name k.apart w.1;
      paired = omega (arith, l, length_push t.entries None, k.paired);
      fitting = ap (λ (n : ℕ). every (fits_entry n) (t.entries ▷ None)) l ∙
          every_push (fits_entry (length t.names + 1)) t.entries None
          (every_more (fits_entry (length t.names)) (fits_entry (length t.names + 1)) (fits_more (length t.names)) t.entries k.fitting) refl;
    }
learn-kept t (deps output mtime inputs) k w =
    let q = and_parts (ltb output (length t.names)) (every (λ id. ltb id (length t.names)) inputs) w.0 in
    let e : fits_entry (length t.names) (Some (record { mtime = mtime; inputs = inputs })) ≡ true =
    and_from (ltb mtime (2 ^ 64) && leb (length inputs) 64) _ (and_from (ltb mtime (2 ^ 64)) _ (lt-ltb mtime (2 ^ 64) w.1) (le-leb (length inputs) 64 w.2)) q.1 in
    record {
      few = k.few;
      named = k.named;
      apart = k.apart;
      paired = length-set t.entries output _ ∙ k.paired;
      fitting = every_set (fits_entry (length t.names)) t.entries output _ k.fitting e;
    }

pub learn_all-kept : (t : Table) (rs : List Record) → Kept t → AllWritable t rs → Kept (learn_all t rs)
learn_all-kept t [] k w = k
learn_all-kept t (r ∷ rs) k w = learn_all-kept (learn t r) rs (learn-kept t r k w.0) w.1

-- a first part of writable records is writable
pub front_writable : (t : Table) (rs ss : List Record) → AllWritable t (rs ++ ss) → AllWritable t rs
front_writable t [] ss w = tt
front_writable t (r ∷ rs) ss w = (w.0, front_writable (learn t r) rs ss w.1)
