use Rattle.std.proofs.Common.{◌≡◌, ◌+◌, ◌*◌, ◌≤◌, length}
use Rattle.image.specs.Learning.{view}
use Rattle.notes.specs.Notes.{notes_bytes}
use Rattle.notes.specs.Compacting.{compact_bytes}
use Rattle.depslog.proofs.Telling.{Left, rest_of}
use Rattle.depslog.proofs.recompaction.count_entries.Given as goal

-- the notes that are left give the table and the length
abbrev pub invariant-loop-id : goal.invariant-loop-id
invariant-loop-id l =
    Left (view l.from) (view l.into) l.id
    × (l.total + length (notes_bytes (view l.into) (rest_of (view l.from) l.id)) ≡ length (compact_bytes (view l.from)))
    × (l.total ≤ 16 + 8592 * l.id)
