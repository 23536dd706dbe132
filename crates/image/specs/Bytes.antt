-- The bytes of a log image: the header, and each record. Assumes nothing.
use Rattle.std.specs.Prelude.{ℕ, ◌+◌, ◌-◌, ◌*◌, ◌/◌, ◌%◌, List, [], ◌∷◌, ◌++◌, length, replicate}

-- A path record gives a name the next id; a deps record gives an output's mtime and inputs, by ids.
pub data Record : Type 0 where
  path : (name : List ℕ) → Record
  deps : (output mtime : ℕ) (inputs : List ℕ) → Record

-- "# ninjadeps", a newline, and the version 4
abbrev pub header : List ℕ
header = 0x23 ∷ 0x20 ∷ 0x6E ∷ 0x69 ∷ 0x6E ∷ 0x6A ∷ 0x61 ∷ 0x64 ∷ 0x65 ∷ 0x70 ∷ 0x73 ∷ 0x0A ∷ 0x04 ∷ 0x00 ∷ 0x00 ∷ 0x00 ∷ []

-- a number as 4 bytes and as 8, the lowest first
abbrev pub word : ℕ → List ℕ
word n = n % 256 ∷ n / 256 % 256 ∷ n / 65536 % 256 ∷ n / 16777216 % 256 ∷ []

abbrev pub long : ℕ → List ℕ
long n = word n ++ word (n / 4294967296)

abbrev pub words : List ℕ → List ℕ
words [] = []
words (n ∷ ns) = word n ++ words ns

-- how many zeros make a multiple of 4 of n bytes
abbrev pub padding : ℕ → ℕ
padding n = (4 - n % 4) % 4

abbrev pub padded : List ℕ → List ℕ
padded name = name ++ replicate (padding (length name)) 0

-- the bitwise complement of an id, in 32 bits
abbrev pub checksum : ℕ → ℕ
checksum id = 4294967295 - id

-- A word with the size, the top bit set for deps, and what follows it. `id` is the next id, which only a path record holds.
abbrev pub record_bytes : ℕ → Record → List ℕ
record_bytes id (path name) = word (length (padded name) + 4) ++ padded name ++ word (checksum id)
record_bytes id (deps output mtime inputs) = word (2147483648 + (12 + 4 * length inputs)) ++ word output ++ long mtime ++ words inputs

-- the next id behind a record
abbrev pub next_id : ℕ → Record → ℕ
next_id id (path name) = id + 1
next_id id (deps output mtime inputs) = id

-- records one after the other, `id` being the next id at the first
abbrev pub records_bytes : ℕ → List Record → List ℕ
records_bytes id [] = []
records_bytes id (r ∷ rs) = record_bytes id r ++ records_bytes (next_id id r) rs
