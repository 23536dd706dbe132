use Rattle.std.proofs.Common.{◌≡◌, ℕ, ◌+◌, ◌<◌, ◌≤◌, length, drop, Some, None, Err, Result, ap, ◌∙◌, subst, arith}
use Rattle.terms.specs.declared.Refusal.{Refusal}
use Rattle.terms.specs.declared.Refusal.TheVariants.{OverLimit}
use Rattle.image.specs.declared.filled.Filled.{Filled}
use Rattle.image.specs.Bytes.{Record, path, deps}
use Rattle.image.specs.Reading.{Reading, good, bad, end}
use Rattle.image.specs.Tables.{Table}
use Rattle.image.specs.Learning.{view}
use Rattle.image.specs.Shown.{shown, ids_of, Leads}
use Rattle.image.proofs.Told.{front-told}
use Rattle.image.proofs.Fills.{read_is, taken_by, step-on, step-over, step_stop, scan-bad, scan-end}
use Rattle.image.proofs.table.DepsTable.read_all.Goals as goal
use Rattle.image.proofs.table.DepsTable.read_all.Goals.{in-Path, in-Deps}

pub take_path-learned-requires : goal.take_path-learned-requires
take_path-learned-requires c =
    let t = view c.reading.self in
    let name = c.in-Path.name.value.now in
    let e = read_is t.names c.args.image.now c.reading.at _ (good (path name)) _ c.read_record-next.ensures.value (ap shown c.in-Path.is) in
    let k = front-told t.names (drop c.reading.at c.args.image.now) (path name) e.0 in
    record { some = k.0; clear = k.1; unknown = k.2 }

pub take_deps-learned-requires : goal.take_deps-learned-requires
take_deps-learned-requires c =
    let t = view c.reading.self in
    let d = c.in-Deps.deps.value in
    let r : Record = deps d.output d.mtime (ids_of d) in
    let e = read_is t.names c.args.image.now c.reading.at _ (good r) _ c.read_record-next.ensures.value (ap shown c.in-Deps.is) in
    front-told t.names (drop c.reading.at c.args.image.now) r e.0

pub returns-in-Bad : goal.returns-in-Bad
returns-in-Bad c =
    let t = view c.reading.self in
    let image = c.args.image.now in
    let at = c.reading.at in
    let e = read_is t.names image at _ (bad c.in-Bad.cause) _ c.read_record-next.ensures.value (ap shown c.in-Bad.is) in
    step_stop c.reading.records image t at (Some (record { offset = at; value = c.in-Bad.cause })) _ (λ f. scan-bad f image t at c.in-Bad.cause e.0)
    (omega (arith, c.reading.invariant.0, c.reading.invariant.1)) c.reading.invariant.2

pub returns-in-End : goal.returns-in-End
returns-in-End c =
    let t = view c.reading.self in
    let image = c.args.image.now in
    let at = c.reading.at in
    let e = read_is t.names image at _ end _ c.read_record-next.ensures.value (ap shown c.in-End.is) in
    step_stop c.reading.records image t at None _ (λ f. scan-end f image t at e.0) (omega (arith, c.reading.invariant.0, c.reading.invariant.1)) c.reading.invariant.2

pub returns-then-not-learned : goal.returns-then-not-learned
returns-then-not-learned c =
    let t = view c.reading.self in
    let u = view c.match-read.self in
    let image = c.args.image.now in
    let at = c.reading.at in
    let n = c.reading.records in
    let h : n < length image = omega (arith, c.reading.invariant.0, c.reading.invariant.1) in
    let F : Table → Result Filled Refusal × Table = λ v. (Err (OverLimit at), v) in
    ap F c.clear.ensures ∙
    elim c.match-read.branch [
      | in-Path w ↦
          let r : Record = path w.in-Path.name.value.now in
          let e = read_is t.names image at _ (good r) _ c.read_record-next.ensures.value (ap shown w.in-Path.is) in
          let k = taken_by t r _ _ _ _ w.learned-is w.self-is w.take_path-learned.ensures.limit w.take_path-learned.ensures.after in
          step-over n image t u at _ r c.match-read.learned _ e k c.if-not-learned.true h c.reading.invariant.2
      | in-Deps w ↦
          let d = w.in-Deps.deps.value in
          let r : Record = deps d.output d.mtime (ids_of d) in
          let e = read_is t.names image at _ (good r) _ c.read_record-next.ensures.value (ap shown w.in-Deps.is) in
          let k = taken_by t r _ _ _ _ w.learned-is w.self-is w.take_deps-learned.ensures.limit w.take_deps-learned.ensures.after in
          step-over n image t u at _ r c.match-read.learned _ e k c.if-not-learned.true h c.reading.invariant.2
    ]

-- the next record stands 12 bytes on, or more
led : (x : Reading) (r : Record) (at next len : ℕ) → x ≡ good r → Leads x at next len → (at + 12 ≤ next) × (next ≤ len)
led x r at next len e l = subst (λ (y : Reading). Leads y at next len) e l

pub reading-preserved : goal.reading-preserved
reading-preserved c =
    let t = view c.reading.self in
    let u = view c.match-read.self in
    let image = c.args.image.now in
    let at = c.reading.at in
    let n = c.reading.records in
    let h : n < length image = omega (arith, c.reading.invariant.0, c.reading.invariant.1) in
    elim c.match-read.branch [
      | in-Path w ↦
          let r : Record = path w.in-Path.name.value.now in
          let e = read_is t.names image at _ (good r) _ c.read_record-next.ensures.value (ap shown w.in-Path.is) in
          let k = taken_by t r _ _ _ _ w.learned-is w.self-is w.take_path-learned.ensures.limit w.take_path-learned.ensures.after in
          let m = led _ r at c.read_record-next.result.1 (length image) (ap shown w.in-Path.is) c.read_record-next.ensures.leads in
          (omega (arith, m.0, c.reading.invariant.0), m.1, step-on n image t u at _ r c.match-read.learned _ e k c.if-not-learned.false h c.reading.invariant.2)
      | in-Deps w ↦
          let d = w.in-Deps.deps.value in
          let r : Record = deps d.output d.mtime (ids_of d) in
          let e = read_is t.names image at _ (good r) _ c.read_record-next.ensures.value (ap shown w.in-Deps.is) in
          let k = taken_by t r _ _ _ _ w.learned-is w.self-is w.take_deps-learned.ensures.limit w.take_deps-learned.ensures.after in
          let m = led _ r at c.read_record-next.result.1 (length image) (ap shown w.in-Deps.is) c.read_record-next.ensures.leads in
          (omega (arith, m.0, c.reading.invariant.0), m.1, step-on n image t u at _ r c.match-read.learned _ e k c.if-not-learned.false h c.reading.invariant.2)
    ]
