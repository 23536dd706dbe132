use Rattle.std.proofs.Common.{◌+◌, ◌≤◌, map, length, take}
use Rattle.terms.specs.Few.{items}
use Rattle.image.specs.Learning.{view}
use Rattle.notes.specs.Notes.{name_of}
use Rattle.depslog.specs.Adding.{Adds}
use Rattle.depslog.proofs.Addings.{noted}
use Rattle.depslog.proofs.recompaction.add_entry.Given as goal

-- what the note with the inputs so far adds
abbrev pub invariant-loop-input : goal.invariant-loop-input
invariant-loop-input l =
    Adds (view l.into) (noted (name_of (view l.from) l.id) l.entry.mtime (map (name_of (view l.from)) (take l.input-index l.input-items))) l.added
    × (length (items l.added.names) ≤ l.input-index + 1)
