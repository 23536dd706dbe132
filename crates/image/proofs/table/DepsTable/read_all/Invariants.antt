use Rattle.std.proofs.Common.{◌≡◌, ◌+◌, ◌-◌, ◌*◌, ◌≤◌, length}
use Rattle.image.specs.Tables.{bare}
use Rattle.image.specs.Scans.{scan, fill_by}
use Rattle.image.specs.Learning.{view}
use Rattle.image.proofs.table.DepsTable.read_all.Given as goal

-- what is left of the image gives the answer; a record takes 12 bytes or more
abbrev pub invariant-reading : goal.invariant-reading
invariant-reading l =
    (16 + 12 * l.records ≤ l.at) × (l.at ≤ length l.image)
    × (fill_by l.records (length (view l.self).names) (scan (length l.image - l.records) l.image (view l.self) l.at) ≡ fill_by 0 0 (scan (length l.image) l.image bare 16))

abbrev pub decreases-reading : goal.decreases-reading
decreases-reading l = length l.image - l.at
