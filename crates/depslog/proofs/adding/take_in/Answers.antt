use Rattle.std.proofs.Common.{◌≡◌, ℕ, ◌+◌, List, ◌++◌, length, Some, None, sym, ap, ◌∙◌, arith, Bor}
use Rattle.std.specs.List.{position}
use Rattle.std.specs.Str.{bytes_eq}
use Rattle.std.proofs.lemmas.List.{append-nil, length_push}
use Rattle.std.proofs.lemmas.Bool.{lt-ltb, cond-true}
use Rattle.terms.specs.Few.{items}
use Rattle.terms.specs.Lists.{place_in, ◌▷◌}
use Rattle.image.specs.Learning.{view}
use Rattle.image.proofs.Learned.{view-kept}
use Rattle.notes.specs.Notes.{id_in}
use Rattle.depslog.specs.Texts.{texts}
use Rattle.depslog.proofs.Appends.{texts_long}
use Rattle.depslog.proofs.Freshly.{place_among, texts_push, some_in, none_in, is-new, is_known_lem, is-taken, id_known, id_new, id_last}
use Rattle.depslog.proofs.adding.take_in.Goals as goal

pub returns-in-Some : goal.returns-in-Some
returns-in-Some c =
    let known = (view c.args.table.now).names in
    let fresh = texts (items c.args.names.now) in
    let n = c.args.name.now in
    let id = c.in-Some.id in
    let q = id_known n known fresh id c.in-Some.ensures in
    record {
      names = sym (append-nil fresh) ∙ ap (λ (ns : List (List ℕ)). fresh ++ ns) (sym (is_known_lem n known fresh (some_in n known id c.in-Some.ensures)));
      count = omega arith;
      id = q.0;
      small = omega (arith, q.1, (view-kept c.args.table.now).few);
    }

pub returns-in-Some-place_among : goal.returns-in-Some-place_among
returns-in-Some-place_among c =
    let known = (view c.args.table.now).names in
    let xs = items c.args.names.now in
    let n = c.args.name.now in
    let k = c.in-Some-place_among.k in
    let e : Some k ≡ place_in n (texts xs) =
    sym c.in-Some-place_among.is ∙ c.place_among.ensures ∙ ap (position (λ (y : Bor (List ℕ)). bytes_eq y.now n)) c.as_slice.ensures.items ∙ place_among n xs in
    let q = id_new n known (texts xs) k c.in_default.ensures e in
    record {
      names = sym (append-nil (texts xs)) ∙ ap (λ (ns : List (List ℕ)). texts xs ++ ns) (sym (is-taken n known (texts xs) (some_in n (texts xs) k e)));
      count = omega arith;
      id = ap (λ (m : ℕ). m + k) c.path_count.ensures.count ∙ q.0;
      small = omega (arith, q.1, texts_long xs, c.requires, c.path_count.ensures.count, c.path_count.ensures.kept.few);
    }

pub returns : goal.returns
returns c =
    let known = (view c.args.table.now).names in
    let xs = items c.args.names.now in
    let n = c.args.name.now in
    let e : None ≡ place_in n (texts xs) =
    sym c.in_default-place_among.is ∙ c.place_among.ensures ∙ ap (position (λ (y : Bor (List ℕ)). bytes_eq y.now n)) c.as_slice.ensures.items ∙ place_among n xs in
    let pushed = c.push.ensures.after ∙ cond-true _ (xs ▷ c.args.name) xs (lt-ltb (length xs) 65 c.requires) in
    let after : texts (items c.push.new.self) ≡ texts xs ▷ n = ap texts pushed ∙ texts_push xs c.args.name in
    let k : ℕ = length c.as_slice-k.result.now in
    let l : k ≡ length (texts xs) = ap length c.as_slice-k.ensures.items ∙ sym (texts_long xs) in
    record {
      names = after ∙ ap (λ (ns : List (List ℕ)). texts xs ++ ns) (sym (is-new n known (texts xs) (none_in n known c.in_default.ensures) (none_in n (texts xs) e)));
      count = omega (arith, ap length pushed, length_push xs c.args.name);
      id = ap (λ (m : ℕ). m + k) c.path_count-2.ensures.count ∙ ap (λ (j : ℕ). length known + j) l ∙ id_last n known (texts xs) c.in_default.ensures e ∙
          ap (λ (ns : List (List ℕ)). id_in (known ++ ns) n) (sym after);
      small = omega (arith, l, texts_long xs, c.requires, c.path_count-2.ensures.count, c.path_count-2.ensures.kept.few);
    }
