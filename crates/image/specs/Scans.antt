-- The good records of an image: what they tell, where they end, and what is over a limit. Assumes nothing.
use Rattle.std.specs.Prelude.{ℕ, zero, suc, ◌+◌, Bool, cond, ◌||◌, List, [], ◌∷◌, length, take, drop, Some, None, Ok, Err, Option, Result, nat_le, nat_lt}
use Rattle.std.specs.Str.{bytes_eq}
use Rattle.terms.specs.declared.At.{At}
use Rattle.terms.specs.declared.Refusal.{Refusal}
use Rattle.terms.specs.declared.Refusal.TheVariants.{NoHeader, OverLimit}
use Rattle.terms.specs.Lists.{empty}
use Rattle.image.specs.declared.cause.Cause.{Cause}
use Rattle.image.specs.declared.filled.Filled.{Filled}
use Rattle.image.specs.Bytes.{Record, path, deps, header, next_id}
use Rattle.image.specs.Reading.{good, bad, end, read_front, next_offset}
use Rattle.image.specs.Tables.{Table, bare, learn}

-- The good records up to the first bad one or the end, with their offsets; what they tell; where they end; and the bad one, if there is one.
pub record Scan : Type 0 where
  pub records : List (At Record)
  pub table : Table
  pub past : ℕ
  pub tail : Option (At Cause)

abbrev pub found : ℕ → Record → Scan → Scan
found at r s = record { records = record { offset = at; value = r } ∷ s.records; table = s.table; past = s.past; tail = s.tail }

abbrev pub stopped : Table → ℕ → Option (At Cause) → Scan
stopped t at tail = record { records = []; table = t; past = at; tail = tail }

-- The records from an offset on, at most `fuel` of them. Each takes 12 bytes or more, so the image's length is fuel enough.
abbrev pub scan : (fuel : ℕ) → List ℕ → Table → ℕ → Scan
scan zero image t at = stopped t at None
scan (suc fuel) image t at =
    elim (read_front t.names (drop at image)) [
      | good r ↦ found at r (scan fuel image (learn t r) (next_offset image at (good r)))
      | bad c ↦ stopped t at (Some (record { offset = at; value = c }))
      | end ↦ stopped t at None
    ]

-- no bytes count as the bare header
abbrev pub image_of : List ℕ → List ℕ
image_of live = cond (empty live) header live

abbrev pub has_header : List ℕ → Bool
has_header image = bytes_eq header (take 16 image)

-- the good records of live bytes; none without the header
abbrev pub scanned : List ℕ → Scan
scanned live = cond (has_header (image_of live)) (scan (length (image_of live)) (image_of live) bare 16) (stopped bare 0 None)

-- the table of live bytes
abbrev pub known : List ℕ → Table
known live = (scanned live).table

-- the bytes up to the end of the last good record
abbrev pub good_bytes : List ℕ → List ℕ
good_bytes live = take (scanned live).past (image_of live)

-- Over a limit: a name of more than 120 bytes, the 257th path, more than 64 inputs. `id` is the next id.
abbrev pub is_over : ℕ → Record → Bool
is_over id (path name) = nat_lt 120 (length name) || nat_le 256 id
is_over id (deps output mtime inputs) = nat_lt 64 (length inputs)

-- the offset of the first record over a limit
abbrev pub first_over : ℕ → List (At Record) → Option ℕ
first_over id [] = None
first_over id (r ∷ rs) = cond (is_over id r.value) (Some r.offset) (first_over (next_id id r.value) rs)

abbrev pub over_limit : List ℕ → Option ℕ
over_limit live = first_over 0 (scanned live).records

-- Filling a table from a scan, n records having been read before it: refused at the first record over a limit, and then the table is left bare; otherwise
-- the number of good records, their length and the tail.
abbrev pub fill_from : ℕ → Option ℕ → Scan → Result Filled Refusal × Table
fill_from n (Some offset) s = (Err (OverLimit offset), bare)
fill_from n None s = (Ok (record { records = n + length s.records; length = s.past; tail = s.tail }), s.table)

-- the same, `id` being the next id at its first record
abbrev pub fill_by : ℕ → ℕ → Scan → Result Filled Refusal × Table
fill_by n id s = fill_from n (first_over id s.records) s

abbrev pub filled : List ℕ → Result Filled Refusal × Table
filled live = cond (has_header (image_of live)) (fill_by 0 0 (scanned live)) (Err NoHeader, bare)
