use Rattle.std.proofs.Common.{◌≡◌, ◌-◌, true, false, length, drop, is_some, sym, ap, ◌∙◌, w32}
use Rattle.std.specs.Int.{from_le_bytes}
use Rattle.std.proofs.lemmas.Bool.{or_left, or_right, or_from}
use Rattle.std.proofs.lemmas.Option.{MatchOption-at_some}
use Rattle.terms.specs.Lists.{is_in}
use Rattle.terms.specs.Names.{holds_zero}
use Rattle.image.specs.Bytes.{checksum}
use Rattle.image.specs.Reading.{word_at, unpadded}
use Rattle.image.specs.Learning.{view}
use Rattle.image.proofs.Chunks.{word-of, any-zero}
use Rattle.image.proofs.Loops.{word_at-drop}
use Rattle.image.proofs.Readings.{known_by, name-bad, name-good}
use Rattle.image.proofs.reader.read_path.Goals as goal
use Rattle.image.proofs.reader.read_path.Goals.{then-contains-via-then-contains, then-contains-via-else-contains+then-is_some}

pub returns-then-contains-clause-value : goal.returns-then-contains-clause-value
returns-then-contains-clause-value c =
    let body = c.args.body.now in
    let known = (view c.args.known.now).names in
    let name = c.unpadded-name.result.now in
    let p = MatchOption-at_some _ _ c.unwrap.result c.unwrap.ensures c.split_last_chunk.ensures.cases in
    let w : word_at body (length body - 4) ≡ checksum (length known) =
    word_at-drop body (length body - 4) ∙ sym (word-of (drop (length body - 4) body)) ∙ ap (from_le_bytes w32) (sym p.1) ∙ sym c.from_le_bytes.ensures ∙
    c.if-from_le_bytes-path_count.false ∙ ap checksum c.path_count.ensures.count in
    name-bad known body name (c.unpadded-name.ensures ∙ ap unpadded p.0) w
    (elim c.then-contains.branch [
      | then-contains-via-then-contains v ↦ or_left (holds_zero name) (is_in name known) (sym (any-zero name) ∙ sym c.contains.ensures.value ∙ v.if-contains.true)
      | then-contains-via-else-contains+then-is_some v ↦ or_right (holds_zero name) (is_in name known) (known_by name known true (v.if-is_some.ensures ∙ ap is_some v.id_of.ensures))
    ])

pub returns-clause-value : goal.returns-clause-value
returns-clause-value c =
    let body = c.args.body.now in
    let known = (view c.args.known.now).names in
    let name = c.unpadded-name.result.now in
    let p = MatchOption-at_some _ _ c.unwrap.result c.unwrap.ensures c.split_last_chunk.ensures.cases in
    let w : word_at body (length body - 4) ≡ checksum (length known) =
    word_at-drop body (length body - 4) ∙ sym (word-of (drop (length body - 4) body)) ∙ ap (from_le_bytes w32) (sym p.1) ∙ sym c.from_le_bytes.ensures ∙
    c.if-from_le_bytes-path_count.false ∙ ap checksum c.path_count.ensures.count in
    name-good known body name (c.unpadded-name.ensures ∙ ap unpadded p.0) w
    (or_from (holds_zero name) (is_in name known) (sym (any-zero name) ∙ sym c.contains.ensures.value ∙ c.if-contains.false)
    (known_by name known false (c.if-is_some.ensures ∙ ap is_some c.id_of.ensures)))
