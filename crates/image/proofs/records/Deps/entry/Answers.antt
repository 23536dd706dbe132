use Rattle.std.proofs.Common.{◌≡◌, ℕ, ◌/◌, ◌≤◌, true, leb, ltb, List, length, map, take, Some, None, Option, sym, ap, ◌∙◌, arith, w32}
use Rattle.std.specs.Int.{from_le_bytes}
use Rattle.std.proofs.lemmas.List.{take_all, length-map, length-take-le}
use Rattle.std.proofs.lemmas.Bool.{le-leb, lt-leb, lt-ltb, cond-true, cond-false}
use Rattle.terms.specs.Lists.{◌▷◌}
use Rattle.image.specs.Tables.{Entry}
use Rattle.image.specs.View.{entry_of}
use Rattle.image.specs.Shown.{ids_of}
use Rattle.image.proofs.Chunks.{words-made, map-more}
use Rattle.image.proofs.Loops.{length-words_of}
use Rattle.image.proofs.records.Deps.entry.Goals as goal

abbrev inputs_of : Entry → List ℕ
inputs_of e = e.inputs

abbrev mtime_of : Entry → ℕ
mtime_of e = e.mtime

pub returns-then-words-gt64 : goal.returns-then-words-gt64
returns-then-words-gt64 c =
    let d = c.args.self.now in
    let made : Option Entry = Some (record { mtime = d.mtime; inputs = ids_of d }) in
    sym (cond-false (leb (length (ids_of d)) 64) made None
    (lt-leb (length (ids_of d)) 64 (omega (arith, length-words_of (length d.ids.now / 4) d.ids.now, c.if-words-gt64.true, c.as_chunks.ensures.front_len))))

pub loop-id-init : goal.loop-id-init
loop-id-init c = record { timed = ap mtime_of c.new-gathered.ensures; made = ap inputs_of c.new-gathered.ensures }

pub loop-id-preserved : goal.loop-id-preserved
loop-id-preserved c =
    let was = entry_of c.loop-id.gathered in
    let words = c.as_chunks.result.0.now in
    let i = c.loop-id.id-index in
    let more : Entry = record { mtime = was.mtime; inputs = was.inputs ▷ c.from_le_bytes.result } in
    let n : length was.inputs ≡ i = ap length c.loop-id.invariant.made ∙ length-map (take i words) (from_le_bytes w32) ∙ length-take-le i words (omega (arith, c.loop-id-test.true)) in
    let room : ltb (length was.inputs) 64 ≡ true = lt-ltb (length was.inputs) 64 (omega (arith, n, c.loop-id-test.true, c.if-words-gt64.false)) in
    let e : entry_of c.push.new.self ≡ more = c.push.ensures.after ∙ cond-true (ltb (length was.inputs) 64) more was room in
    record {
      timed = ap mtime_of e ∙ c.loop-id.invariant.timed;
      made = ap inputs_of e ∙ ap (λ (xs : List ℕ). xs ▷ c.from_le_bytes.result) c.loop-id.invariant.made ∙
          map-more (from_le_bytes w32) words i _ c.from_le_bytes.result c.loop-id-test.true c.from_le_bytes.ensures;
    }

pub returns : goal.returns
returns c =
    let d = c.args.self.now in
    let words = c.as_chunks.result.0.now in
    let was = entry_of c.loop-id.gathered in
    let F : ℕ → List ℕ → Option Entry = λ m xs. Some (record { mtime = m; inputs = xs }) in
    let i : was.inputs ≡ ids_of d =
    c.loop-id.invariant.made ∙ ap (map (from_le_bytes w32)) (take_all c.loop-id.id-index words c.loop-id-test.false ∙ c.as_chunks.ensures.front) ∙ words-made (length d.ids.now / 4) d.ids.now in
    let l : length (ids_of d) ≤ 64 = omega (arith, length-words_of (length d.ids.now / 4) d.ids.now, c.if-words-gt64.false, c.as_chunks.ensures.front_len) in
    ap (λ (m : ℕ). F m was.inputs) c.loop-id.invariant.timed ∙ ap (F d.mtime) i ∙ sym (cond-true (leb (length (ids_of d)) 64) (F d.mtime (ids_of d)) None (le-leb (length (ids_of d)) 64 l))
