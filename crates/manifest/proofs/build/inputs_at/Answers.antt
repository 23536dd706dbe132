use Rattle.std.proofs.Common.{ℕ, drop, ap}
use Rattle.words.specs.Tokens.{tokens}
use Rattle.manifest.specs.Building.{names_of}
use Rattle.manifest.specs.Groups.{rest, group_names}
use Rattle.manifest.proofs.Marks.{inputs-some, inputs-none, at_end, not_end}
use Rattle.manifest.proofs.build.inputs_at.Goals as goal

pub returns-in-End : goal.returns-in-End
returns-in-End c =
    let xs = c.args.bytes.now in
    let P = c.group_at-plain.result in
    let I = c.behind-implicit.result in
    let O = c.behind-order.result in
    record {
      said = inputs-some (tokens (drop c.args.at xs)) (rest xs P.mark P.next) (rest xs I.mark I.next) (rest xs O.mark O.next) (group_names xs P) (group_names xs I) (group_names xs O)
          (ap (λ (k : ℕ). names_of (tokens (drop k xs))) c.group_at-plain.ensures.begins) c.group_at-plain.ensures.marks c.behind-implicit.ensures.names c.behind-implicit.ensures.rest
          c.behind-order.ensures.names c.behind-order.ensures.rest (at_end xs O.next O.mark c.in-End.is);
      sums = (c.group_at-plain.ensures.sums, c.behind-implicit.ensures.sums, c.behind-order.ensures.sums);
    }

pub returns-in_default : goal.returns-in_default
returns-in_default c =
    let xs = c.args.bytes.now in
    let P = c.group_at-plain.result in
    let I = c.behind-implicit.result in
    let O = c.behind-order.result in
    record {
      said = inputs-none (tokens (drop c.args.at xs)) (rest xs P.mark P.next) (rest xs I.mark I.next) (rest xs O.mark O.next) (group_names xs P) (group_names xs I) (group_names xs O)
          (ap (λ (k : ℕ). names_of (tokens (drop k xs))) c.group_at-plain.ensures.begins) c.group_at-plain.ensures.marks c.behind-implicit.ensures.names c.behind-implicit.ensures.rest
          c.behind-order.ensures.names c.behind-order.ensures.rest (not_end xs O.next O.mark c.in_default.not-End);
      sums = tt;
    }
