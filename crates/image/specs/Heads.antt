-- The word that a record begins with, taken apart. Assumes nothing.
use Rattle.std.specs.Prelude.{ℕ, ◌%◌, Bool, cond, not, ◌||◌, List, length, take, ◌==◌, nat_lt}
use Rattle.image.specs.declared.cause.Cause.TheVariants.{TooLong, BadSize}
use Rattle.image.specs.declared.head.Kind.{Kind}
use Rattle.image.specs.declared.head.Kind.TheVariants.{Path, Deps}
use Rattle.image.specs.declared.head.Head.{Head}
use Rattle.image.specs.Reading.{Reading, bad, read_path, read_deps, is_deps, size_of}

abbrev pub head_of : ℕ → Head
head_of w = record { kind = cond (is_deps w) Deps Path; size = size_of w }

-- the least size of a record of a kind
abbrev pub least : Kind → ℕ
least Path = 8
least Deps = 12

-- whether the size is no multiple of 4, or too small
abbrev pub is_odd : Head → Bool
is_odd h = not (h.size % 4 == 0) || nat_lt h.size (least h.kind)

-- a record of a kind, by the bytes behind its word
abbrev pub read_kind : Kind → List (List ℕ) → List ℕ → Reading
read_kind Path known body = read_path known body
read_kind Deps known body = read_deps known body

-- the record that begins with the head h and goes on with the bytes of rest
abbrev pub body_by : List (List ℕ) → Head → List ℕ → Reading
body_by known h rest =
    cond (nat_lt (length rest) h.size) (bad TooLong)
    (cond (is_odd h) (bad BadSize)
    (read_kind h.kind known (take h.size rest)))
