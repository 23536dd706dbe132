-- Laws of reading and filling, in terms of what was written. Assumes nothing.
use Rattle.std.specs.Prelude.{◌≡◌, ℕ, ◌+◌, ◌^◌, ◌<◌, ◌≤◌, true, false, ◌⊎◌, List, [], ◌∷◌, ◌++◌, length, take, drop, None, Ok, Result}
use Rattle.terms.specs.declared.Refusal.{Refusal}
use Rattle.terms.specs.Lists.{every, is_in}
use Rattle.image.specs.declared.cause.Cause.TheVariants.{NoWord, TooLong}
use Rattle.image.specs.declared.filled.Filled.{Filled}
use Rattle.terms.specs.Names.{is_name}
use Rattle.image.specs.Bytes.{Record, path, deps, header, record_bytes, records_bytes}
use Rattle.image.specs.Reading.{Reading, good, bad, is_known}
use Rattle.image.specs.Tables.{Table, bare, learn, learn_all}

-- A record that may be written where these names are known: a new name, of which fewer than 256 are known; or deps with known ids, a time of 64 bits and at
-- most 64 inputs.
abbrev pub Writable : List (List ℕ) → Record → Type 0
Writable known (path name) = (is_name name ≡ true) × (is_in name known ≡ false) × (length known < 256)
Writable known (deps output mtime inputs) = (every (is_known known) (output ∷ inputs) ≡ true) × (mtime < 2 ^ 64) × (length inputs ≤ 64) × (length known ≤ 256)

-- records, each writable where those before it are known
abbrev pub AllWritable : Table → List Record → Type 0
AllWritable t [] = Unit {0}
AllWritable t (r ∷ rs) = Writable t.names r × AllWritable (learn t r) rs

-- A written record, whatever follows it, is read back as itself, and the next record is looked for behind it.
abbrev pub ReadsBack : List (List ℕ) → List ℕ → ℕ → Reading → ℕ → Type 0
ReadsBack known image at reading next =
    (r : Record) (rest : List ℕ) → Writable known r → drop at image ≡ record_bytes (length known) r ++ rest →
    (reading ≡ good r) × (next ≡ at + length (record_bytes (length known) r))

-- bad by the first or the second cause
abbrev pub Torn : Reading → Type 0
Torn x = (x ≡ bad NoWord) ⊎ (x ≡ bad TooLong)

-- Of a record that is cut anywhere inside nothing is taken for good: it is bad by the first or the second cause.
abbrev pub ReadsTorn : List (List ℕ) → List ℕ → ℕ → Reading → Type 0
ReadsTorn known image at reading =
    (r : Record) (n : ℕ) → Writable known r → 0 < n → n < length (record_bytes (length known) r) → drop at image ≡ take n (record_bytes (length known) r) → Torn reading

-- An image of the header and written records fills a table with exactly what these tell: all are read, and no tail is left.
abbrev pub FillsWritten : List ℕ → Result Filled Refusal → Table → Type 0
FillsWritten image answer table =
    (rs : List Record) → AllWritable bare rs → image ≡ header ++ records_bytes 0 rs →
    (answer ≡ Ok (record { records = length rs; length = length image; tail = None })) × (table ≡ learn_all bare rs)
