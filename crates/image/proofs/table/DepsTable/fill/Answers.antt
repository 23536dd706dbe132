use Rattle.std.proofs.Common.{◌≡◌, true, false, [], length, take, None, Ok, Err, Result, sym, ap, ◌∙◌}
use Rattle.std.proofs.lemmas.Slice.Eq.{slice_eq-Decides}
use Rattle.std.proofs.lemmas.List.{nil_from_length}
use Rattle.std.proofs.lemmas.Bool.{eqb-true}
use Rattle.terms.specs.declared.Refusal.{Refusal}
use Rattle.terms.specs.declared.Refusal.TheVariants.{NoHeader}
use Rattle.image.specs.declared.filled.Filled.{Filled}
use Rattle.image.specs.Bytes.{header}
use Rattle.image.specs.Tables.{Table}
use Rattle.image.specs.Scans.{has_header, filled}
use Rattle.image.specs.Learning.{view}
use Rattle.image.proofs.Learned.{view-kept}
use Rattle.image.proofs.Lookup.{decided}
use Rattle.image.proofs.Fills.{headless, headed}
use Rattle.image.proofs.Lawful.{fills_it}
use Rattle.image.proofs.table.DepsTable.fill.Goals as goal
use Rattle.std.proofs.lemmas.Bool.Decides.{Decides-eqb}

pub returns-then-not-starts_with : goal.returns-then-not-starts_with
returns-then-not-starts_with c =
    let image = c.args.image.now in
    let h : has_header image ≡ false = decided c.starts_with.result header (take 16 image) (slice_eq-Decides Decides-eqb _ _ _ c.starts_with.ensures.value) ∙ c.if-not-starts_with.true in
    let F : Table → Result Filled Refusal × Table = λ t. (Err NoHeader, t) in
    let v = ap F c.clear.ensures ∙ headless image (sym c.if-is_empty.ensures) h in
    record { value = v; kept = view-kept c.clear.new.self; written = fills_it image (Err NoHeader) (view c.clear.new.self) v }

pub returns : goal.returns
returns c =
    let image = c.args.image.now in
    let h : has_header image ≡ true = decided c.starts_with.result header (take 16 image) (slice_eq-Decides Decides-eqb _ _ _ c.starts_with.ensures.value) ∙ c.if-not-starts_with.false in
    let v = c.read_all.ensures ∙ headed image (sym c.if-is_empty.ensures) h in
    record { value = v; kept = view-kept c.read_all.new.self; written = fills_it image c.read_all.result (view c.read_all.new.self) v }

pub returns-then-is_empty : goal.returns-then-is_empty
returns-then-is_empty c =
    let image = c.args.image.now in
    let none : image ≡ [] = nil_from_length image (eqb-true (length image) 0 (sym c.if-is_empty.ensures)) in
    let answer : Result Filled Refusal = Ok (record { records = 0; length = 16; tail = None }) in
    let F : Table → Result Filled Refusal × Table = λ t. (answer, t) in
    let v = ap F c.clear.ensures ∙ ap filled (sym none) in
    record { value = v; kept = view-kept c.clear.new.self; written = fills_it image answer (view c.clear.new.self) v }
