-- The laws of noting and of recompacting. Assumes nothing.
use Rattle.std.specs.Prelude.{◌≡◌, ℕ, ◌+◌, ◌*◌, ◌<◌, ◌≤◌, true, false, ◌⊎◌, List, [], ◌++◌, length, take, Some, None, Ok, sum_by, slice_index_or}
use Rattle.image.specs.declared.cause.Cause.{Cause}
use Rattle.image.specs.declared.cause.Cause.TheVariants.{NoWord, TooLong}
use Rattle.image.specs.Bytes.{padded}
use Rattle.image.specs.Tables.{Table, bare}
use Rattle.image.specs.Kept.{Kept}
use Rattle.image.specs.Scans.{Scan, filled, image_of, has_header, scanned, known, good_bytes, over_limit}
use Rattle.notes.specs.Notes.{Note, name_of, by_names, entry_of, unchanged, new_names, names_of, extended, note_bytes, note_table, notes_bytes, notes_table}
use Rattle.notes.specs.Compacting.{entries_of, compact_bytes, compact_table}
use Rattle.notes.specs.Wholeness.{Whole, Fitting, AllFit, Tells, Agree}

-- An image that begins with the header and has no record over a limit is not refused: filling a table from it answers its good records, their length and the tail,
-- and leaves what they tell.
abbrev pub Accepted : Type 0
Accepted = (live : List ℕ) → has_header (image_of live) ≡ true → over_limit live ≡ None →
    filled live ≡ (Ok (record { records = length (scanned live).records; length = (scanned live).past; tail = (scanned live).tail }), known live)

-- Reading what a note wrote gives back what it says: behind a whole image it leaves a whole image, and the table that is meant.
abbrev pub NoteReadsBack : Type 0
NoteReadsBack = (image : List ℕ) (n : Note) → Whole image → Fitting (known image) n → Tells (image ++ note_bytes (known image) n) (note_table (known image) n)

-- So it is with notes one after the other.
abbrev pub NotesReadBack : Type 0
NotesReadBack = (image : List ℕ) (ns : List Note) → Whole image → AllFit (known image) ns → Tells (image ++ notes_bytes (known image) ns) (notes_table (known image) ns)

-- the bytes of a name's path record, and those of a deps record with so many inputs
abbrev pub path_length : List ℕ → ℕ
path_length name = length (padded name) + 8

abbrev pub deps_length : ℕ → ℕ
deps_length inputs = 16 + 4 * inputs

-- What a note adds: nothing, where the entry says the same already; otherwise the names that were unknown, with a path record each, and a deps record.
pub record Adds (t : Table) (n : Note) : Type 0 where
  pub nothing : unchanged t n ≡ true → (note_bytes t n ≡ []) × (note_table t n ≡ t)
  pub names : unchanged t n ≡ false → (note_table t n).names ≡ extended t.names n
  pub bytes : unchanged t n ≡ false → length (note_bytes t n) ≡ sum_by path_length (new_names t.names (names_of n)) + deps_length (length n.says.inputs)

abbrev pub NoteAdds : Type 0
NoteAdds = (t : Table) (n : Note) → Adds t n

-- Notes keep what every table keeps.
abbrev pub NotingKeeps : Type 0
NotingKeeps = (t : Table) (ns : List Note) → Kept t → AllFit t ns → Kept (notes_table t ns)

-- The good bytes of an image that is refused neither for its header nor for a limit are whole, and tell the same.
abbrev pub MendingKeeps : Type 0
MendingKeeps = (live : List ℕ) → has_header (image_of live) ≡ true → over_limit live ≡ None → Kept (known live) → Tells (good_bytes live) (known live)

-- A log's entries are the latest of the notes made in it.
abbrev pub LatestNoted : Type 0
LatestNoted = (ns : List Note) → AllFit bare ns → Agree ns (notes_table bare ns)

-- More notes behind those that agree with a table agree with what is known then.
abbrev pub AgreeGoesOn : Type 0
AgreeGoesOn = (t : Table) (old ns : List Note) → Kept t → AllFit t ns → Agree old t → Agree (old ++ ns) (notes_table t ns)

-- What ends a scan of so many bytes: nothing is left, or a tail whose record is bad by the first or the second cause.
abbrev pub Ends : Scan → ℕ → Type 0
Ends s len = ((s.past ≡ len) × (s.tail ≡ None)) ⊎ ((s.past < len) × (c : Cause) × ((c ≡ NoWord) ⊎ (c ≡ TooLong)) × (s.tail ≡ Some (record { offset = s.past; value = c })))

-- a whole image, and behind it what is left of notes that were cut behind their k-th byte
abbrev pub cut_at : ℕ → List ℕ → List Note → List ℕ
cut_at k image ns = image ++ take k (notes_bytes (known image) ns)

-- An image so cut has the entries of some first part of the notes, with every note all of whose bytes are left; so where old notes agreed with the image, these and
-- that first part agree with what is left. It is refused neither for its header nor for a limit; a note that is not whole leaves a tail; and mended, it is whole.
pub record Cuts (image : List ℕ) (ns : List Note) (k : ℕ) : Type 0 where
  pub count : ℕ
  pub part : count ≤ length ns
  pub safe : (m : ℕ) → m ≤ length ns → length (notes_bytes (known image) (take m ns)) ≤ k → m ≤ count
  pub same : (output : List ℕ) → entry_of (known (cut_at k image ns)) output ≡ entry_of (notes_table (known image) (take count ns)) output
  pub agree : (old : List Note) → Agree old (known image) → Agree (old ++ take count ns) (known (cut_at k image ns))
  pub headed : has_header (cut_at k image ns) ≡ true
  pub within : over_limit (cut_at k image ns) ≡ None
  pub ends : Ends (scanned (cut_at k image ns)) (length (cut_at k image ns))
  pub mended : Tells (good_bytes (cut_at k image ns)) (known (cut_at k image ns))

abbrev pub CutAnywhere : Type 0
CutAnywhere = (image : List ℕ) (ns : List Note) (k : ℕ) → Whole image → AllFit (known image) ns → Cuts image ns k

-- An output's entry is the one that stands at its id.
abbrev pub ById : Table → Type 0
ById t = (id : ℕ) → id < length t.names → entry_of t (name_of t id) ≡ by_names t (slice_index_or t.entries id None)

-- A recompacted image is whole and tells its table, which has the same entries and no others. Recompacted again, it has as many bytes; they may be others, since an
-- input may have come before an output.
pub record Compacts (t : Table) : Type 0 where
  pub fits : AllFit bare (entries_of t)
  pub tells : Tells (compact_bytes t) (compact_table t)
  pub same : (output : List ℕ) → entry_of (compact_table t) output ≡ entry_of t output
  pub again : length (compact_bytes (compact_table t)) ≡ length (compact_bytes t)
  pub noted : Agree (entries_of t) t
  pub placed : ById t

abbrev pub Compaction : Type 0
Compaction = (t : Table) → Kept t → Compacts t
