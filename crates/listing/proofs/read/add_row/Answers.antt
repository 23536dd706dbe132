use Rattle.std.proofs.Common.{◌≡◌, ℕ, ◌<◌, Bool, List, map, length, is_some, Some, Ok, Result, sym, refl, ap, ◌∙◌, arith}
use Rattle.std.specs.Option.{option_map}
use Rattle.std.specs.Str.{bytes_eq}
use Rattle.std.proofs.lemmas.List.{length-map, map_push}
use Rattle.terms.specs.Lists.{place_from}
use Rattle.lists.specs.Grown.{items, room}
use Rattle.terms.specs.Places.{at_place}
use Rattle.words.specs.Line.{line_bytes}
use Rattle.words.proofs.Oks.{given}
use Rattle.lists.proofs.Pushed.{pushed}
use Rattle.lists.proofs.Finds.{place-some, some-map}
use Rattle.listing.specs.declared.fault.ListingFault.{ListingFault}
use Rattle.listing.specs.declared.row.Row.{Row}
use Rattle.listing.specs.Rows.{Listed, is_listed, row_of}
use Rattle.listing.specs.Shown.{listed}
use Rattle.listing.proofs.Said.{listed-before, rows_many, row_new}
use Rattle.listing.proofs.read.add_row.Goals as goal
use Rattle.listing.proofs.read.add_row.Goals.{In_ok-row, After-is_some}

-- the row that was read
read : (c : In_ok-row) → Some (listed c.args.line.text.now c.in_ok-row.row) ≡ row_of (line_bytes c.args.line)
read c = ap (option_map (listed c.args.line.text.now)) (sym (given _ _ _ _ c.ok_or.ensures.value c.in_ok-row.was)) ∙ c.row_at.ensures

-- whether the name was listed before
known : (c : After-is_some) → is_listed (map (listed c.args.line.text.now) (items c.args.rows.now)) (at_place c.args.line.text.now c.in_ok-row.row.name) ≡ c.is_some.result
known c =
    let text = c.args.line.text.now in
    let P : List ℕ → Row → Bool = λ n x. bytes_eq n (at_place text x.name) in
    some-map (listed text) (λ r. bytes_eq (at_place text c.in_ok-row.row.name) r.name) (items c.args.rows.now) ∙
    sym (place-some 0 (P (at_place text c.in_ok-row.row.name)) (items c.args.rows.now)) ∙
    ap (λ (n : List ℕ). is_some (place_from 0 (P n) (items c.args.rows.now))) (sym c.of-name.ensures) ∙
    ap (λ (xs : List Row). is_some (place_from 0 (P c.of-name.result.now) xs)) (sym c.as_slice.ensures) ∙
    ap is_some (sym c.first.ensures.place) ∙ sym c.is_some.ensures

pub returns-then-is_some : goal.returns-then-is_some
returns-then-is_some c = record { room = refl; said = listed-before _ _ (listed c.args.line.text.now c.in_ok-row.row) (read (goal.at.returns-then-is_some c).In_ok-row) (known (goal.at.returns-then-is_some c).After-is_some ∙ c.if-is_some.true) }

pub returns-then-len-ge-ROWS : goal.returns-then-len-ge-ROWS
returns-then-len-ge-ROWS c = record {
  room = refl;
  said = rows_many (map (listed c.args.line.text.now) (items c.args.rows.now)) _ (listed c.args.line.text.now c.in_ok-row.row) (read (goal.at.returns-then-len-ge-ROWS c).In_ok-row) (known (goal.at.returns-then-len-ge-ROWS c).After-is_some ∙ c.if-is_some.false)
      (omega (arith, c.if-len-ge-ROWS.true, c.len.ensures.count, length-map (items c.args.rows.now) (listed c.args.line.text.now)));
}

pub returns : goal.returns
returns c =
    let text = c.args.line.text.now in
    let xs = items c.args.rows.now in
    let r = c.in_ok-row.row in
    let h : length xs < room c.args.rows.now = omega (arith, c.if-len-ge-ROWS.false, c.len.ensures.count, c.requires) in
    let e = pushed xs _ r (room c.args.rows.now) h c.push.ensures.items in
    let F : List Listed → Result (List Listed) ListingFault = λ rs. Ok rs in
    record {
      room = c.push.ensures.room;
      said = ap F (ap (map (listed text)) e ∙ map_push (listed text) xs r) ∙
          row_new (map (listed text) xs) _ (listed text r) (read (goal.at.returns c).In_ok-row) (known (goal.at.returns c).After-is_some ∙ c.if-is_some.false)
          (omega (arith, c.if-len-ge-ROWS.false, c.len.ensures.count, length-map xs (listed text)));
    }
