-- What the last note for an output says. Assumes nothing.
use Rattle.std.specs.Prelude.{ℕ, cond, List, [], ◌∷◌, Some, None, Option}
use Rattle.std.specs.Str.{bytes_eq}
use Rattle.notes.specs.Notes.{Says, Note}

-- what is said of an output once a note is made, e having been said before
abbrev pub say_now : Option Says → List ℕ → Note → Option Says
say_now e output n = cond (bytes_eq output n.output) (Some n.says) e

-- the same of notes one after the other
abbrev pub latest_after : Option Says → List ℕ → List Note → Option Says
latest_after e output [] = e
latest_after e output (n ∷ ns) = latest_after (say_now e output n) output ns

abbrev pub latest : List Note → List ℕ → Option Says
latest ns output = latest_after None output ns
