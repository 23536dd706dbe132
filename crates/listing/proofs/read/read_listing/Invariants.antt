use Rattle.std.proofs.Common.{◌≡◌, ◌≤◌, map}
use Rattle.lists.specs.Grown.{items, room}
use Rattle.words.specs.Line.{lines_left}
use Rattle.listing.specs.Rows.{read_rows, read_listing}
use Rattle.listing.specs.Shown.{listed}
use Rattle.listing.proofs.read.read_listing.Given as goal

-- the lines that are left give the answer
abbrev pub invariant-loop-line : goal.invariant-loop-line
invariant-loop-line l =
    (goal.iterator-loop-line).can_next l.line-iterator
    × (goal.iterator-loop-line).is_finite l.line-iterator
    × (512 ≤ room l.list)
    × (l.line-iterator.text.now ≡ l.text)
    × (read_rows l.line-iterator.number (lines_left l.line-iterator) (map (listed l.text) (items l.list)) ≡ read_listing l.text)
