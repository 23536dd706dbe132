use Rattle.std.proofs.Common.{◌+◌, ◌≤◌, map, length, take}
use Rattle.terms.specs.Few.{items}
use Rattle.terms.specs.Places.{at_place}
use Rattle.image.specs.Learning.{view}
use Rattle.depslog.specs.Adding.{Adds}
use Rattle.depslog.proofs.Addings.{noted}
use Rattle.depslog.proofs.added.Added.to.Given as goal

-- what the note with the inputs so far adds
abbrev pub invariant-loop-place : goal.invariant-loop-place
invariant-loop-place l =
    Adds (view l.table) (noted (at_place l.note.bytes.now l.note.output) l.note.mtime (map (at_place l.note.bytes.now) (take l.place-index l.place-items))) l.self
    × (length (items l.self.names) ≤ l.place-index + 1)
