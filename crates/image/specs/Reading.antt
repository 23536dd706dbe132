-- Reading one record of an image, given the names that are known so far. Assumes nothing.
use Rattle.std.specs.Prelude.{ℕ, zero, suc, ◌+◌, ◌-◌, ◌*◌, ◌/◌, ◌%◌, Bool, cond, not, ◌||◌, List, [], ◌∷◌, length, take, drop, ◌==◌, nat_le, nat_lt, slice_index, slice_index_or}
use Rattle.terms.specs.Lists.{empty, every, is_in}
use Rattle.image.specs.declared.cause.Cause.{Cause}
use Rattle.image.specs.declared.cause.Cause.TheVariants.{NoWord, TooLong, BadSize, BadChecksum, BadName, UnknownId}
use Rattle.terms.specs.Names.{holds_zero}
use Rattle.image.specs.Bytes.{Record, path, deps, checksum}

-- The causes by which a record is bad, in the order in which they are looked for: fewer than 4 bytes remain; the size exceeds the bytes that remain;
-- the size is no multiple of 4, or too small; the checksum does not fit the next id; the name holds a zero or is known already; an id is not known yet.
abbrev pub cause_number : Cause → ℕ
cause_number NoWord = 1
cause_number TooLong = 2
cause_number BadSize = 3
cause_number BadChecksum = 4
cause_number BadName = 5
cause_number UnknownId = 6

-- What stands at an offset: a good record, a bad one with the first cause that holds, or the image's end.
pub data Reading : Type 0 where
  good : Record → Reading
  bad : Cause → Reading
  end : Reading

-- the number that the 4 bytes from place i on say, and the 8
abbrev pub word_at : List ℕ → ℕ → ℕ
word_at xs i = slice_index xs i + 256 * (slice_index xs (i + 1) + 256 * (slice_index xs (i + 2) + 256 * slice_index xs (i + 3)))

abbrev pub long_at : List ℕ → ℕ → ℕ
long_at xs i = word_at xs i + 4294967296 * word_at xs (i + 4)

-- the first n words
abbrev pub words_of : ℕ → List ℕ → List ℕ
words_of zero xs = []
words_of (suc n) xs = word_at xs 0 ∷ words_of n (drop 4 xs)

-- xs without at most n zeros at its end
abbrev pub trimmed : ℕ → List ℕ → List ℕ
trimmed zero xs = xs
trimmed (suc n) xs = cond (slice_index_or xs (length xs - 1) 1 == 0) (trimmed n (take (length xs - 1) xs)) xs

-- a name without the zeros behind it, of which at most three are padding
unfoldable pub unpadded : List ℕ → List ℕ
unpadded xs = trimmed 3 xs

-- the name of a path record
abbrev pub read_name : List (List ℕ) → List ℕ → Reading
read_name known name = cond (holds_zero name || is_in name known) (bad BadName) (good (path name))

-- a path record, by the bytes behind its word: the name with its zeros, and the checksum
abbrev pub read_path : List (List ℕ) → List ℕ → Reading
read_path known body =
    cond (word_at body (length body - 4) == checksum (length known)) (read_name known (unpadded (take (length body - 4) body))) (bad BadChecksum)

-- whether an id is that of a known name
abbrev pub is_known : List (List ℕ) → ℕ → Bool
is_known known id = nat_lt id (length known)

-- a deps record, by the bytes behind its word: the output's id, its mtime, and the inputs' ids
abbrev pub read_deps : List (List ℕ) → List ℕ → Reading
read_deps known body =
    let inputs = words_of (length (drop 12 body) / 4) (drop 12 body) in
    cond (every (is_known known) (word_at body 0 ∷ inputs)) (good (deps (word_at body 0) (long_at body 4) inputs)) (bad UnknownId)

-- what the word says that a record begins with
abbrev pub is_deps : ℕ → Bool
is_deps w = nat_le 2147483648 w

abbrev pub size_of : ℕ → ℕ
size_of w = w % 2147483648

-- whether the size is no multiple of 4, or too small
abbrev pub odd_size : ℕ → Bool
odd_size w = not (size_of w % 4 == 0) || nat_lt (size_of w) (cond (is_deps w) 12 8)

-- the record that begins with the word w and goes on with the bytes of rest
abbrev pub read_body : List (List ℕ) → ℕ → List ℕ → Reading
read_body known w rest =
    cond (nat_lt (length rest) (size_of w)) (bad TooLong)
    (cond (odd_size w) (bad BadSize)
    (cond (is_deps w) (read_deps known (take (size_of w) rest)) (read_path known (take (size_of w) rest))))

-- what stands at the front of xs, the names of `known` having the ids from 0 on
abbrev pub read_front : List (List ℕ) → List ℕ → Reading
read_front known xs =
    cond (empty xs) end
    (cond (nat_lt (length xs) 4) (bad NoWord) (read_body known (word_at xs 0) (drop 4 xs)))

-- the offset of the next record; a bad one and the end lead nowhere
abbrev pub next_offset : List ℕ → ℕ → Reading → ℕ
next_offset image at (good r) = at + 4 + size_of (word_at image at)
next_offset image at (bad c) = at
next_offset image at end = at

-- what stands at an offset, and the offset of the next record
abbrev pub read_at : List (List ℕ) → List ℕ → ℕ → Reading × ℕ
read_at known image at = (read_front known (drop at image), next_offset image at (read_front known (drop at image)))
