use Rattle.image.specs.Tables.{bare}
use Rattle.image.specs.Learning.{view}
use Rattle.notes.specs.Notes.{notes_bytes}
use Rattle.notes.specs.Compacting.{entries_of}
use Rattle.depslog.proofs.Telling.{rest_of, Left}
use Rattle.depslog.proofs.Drafts.{ToDraft}
use Rattle.depslog.proofs.recompaction.draft_entries.Given as goal

-- the notes that are left give the table and the draft
abbrev pub invariant-loop-id : goal.invariant-loop-id
invariant-loop-id g l =
    Left (view l.from) (view l.into) l.id
    × ToDraft (notes_bytes (view l.into) (rest_of (view l.from) l.id)) (g.M.Medium.state l.medium) (notes_bytes bare (entries_of (view l.from))) (g.M.Medium.state l.initial.medium)
