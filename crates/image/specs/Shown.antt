-- What the reader's answer says. Assumes nothing.
use Rattle.std.specs.Prelude.{◌≡◌, ℕ, ◌+◌, ◌/◌, ◌≤◌, Bool, true, false, List, length, Ok, Err, Result}
use Rattle.image.specs.declared.cause.Cause.{Cause}
use Rattle.image.specs.declared.records.Read.{Read}
use Rattle.image.specs.declared.records.Read.TheVariants.{Path, Deps as Depends, Bad, End}
use Rattle.image.specs.declared.records.Deps.{Deps}
use Rattle.image.specs.Bytes.{path, deps}
use Rattle.image.specs.Reading.{Reading, good, bad, end, words_of}

-- the inputs' ids of a deps record
abbrev pub ids_of : Deps → List ℕ
ids_of d = words_of (length d.ids.now / 4) d.ids.now

abbrev pub shown : Read → Reading
shown (Path p) = good (path p.value.now)
shown (Depends d) = good (deps d.value.output d.value.mtime (ids_of d.value))
shown (Bad c) = bad c
shown End = end

-- what the parts of the reader answer: a record, or why it is bad
abbrev pub answered : Result Read Cause → Read
answered (Ok x) = x
answered (Err c) = Bad c

abbrev pub is_good : Reading → Bool
is_good (good r) = true
is_good (bad c) = false
is_good end = false

-- the offset that a record is handed out with; a bad one and the end have the one that was asked
abbrev pub offset_of : ℕ → Read → ℕ
offset_of at (Path p) = p.offset
offset_of at (Depends d) = d.offset
offset_of at (Bad c) = at
offset_of at End = at

-- A record takes 12 bytes or more, all of them within the image; a bad one and the end lead nowhere.
abbrev pub Leads : Reading → ℕ → ℕ → ℕ → Type 0
Leads (good r) at next len = (at + 12 ≤ next) × (next ≤ len)
Leads (bad c) at next len = next ≡ at
Leads end at next len = next ≡ at
