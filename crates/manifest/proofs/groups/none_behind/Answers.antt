use Rattle.std.proofs.Common.{◌≡◌, [], length, drop, sym, refl, ap, arith}
use Rattle.std.proofs.lemmas.List.{drop_all}
use Rattle.terms.specs.Lists.{some}
use Rattle.words.specs.Tokens.{tokens}
use Rattle.manifest.specs.Building.{names_of}
use Rattle.manifest.specs.Groups.{is_long}
use Rattle.manifest.proofs.groups.none_behind.Goals as goal

pub returns : goal.returns
returns c =
    let xs = c.args.bytes.now in
    let e : names_of (tokens (drop (length xs) xs)) ≡ [] = ap (λ bs. names_of (tokens bs)) (drop_all (length xs) xs (omega arith)) in
    record { sums = record { count = sym (ap length e); long = sym (ap (some is_long) e) }; none = e; rest = refl }
