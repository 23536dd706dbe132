-- What a listing says, line by line, and the first fault of one that breaks a rule. Assumes nothing.
use Rattle.std.specs.Prelude.{ℕ, ◌+◌, ◌-◌, ◌*◌, Bool, cond, not, ◌&&◌, List, [], ◌∷◌, length, take, drop, Some, None, Ok, Err, codes, Option, Result, nat_le}
use Rattle.std.specs.Str.{bytes_eq}
use Rattle.terms.specs.declared.At.{At}
use Rattle.terms.specs.Lists.{some, ◌▷◌}
use Rattle.terms.specs.Names.{is_name}
use Rattle.words.specs.declared.class.Class.TheVariants.{Digit}
use Rattle.words.specs.Lines.{lines_of}
use Rattle.words.specs.Runs.{is_of, front, beyond}
use Rattle.listing.specs.declared.fault.ListingFault.{ListingFault}
use Rattle.listing.specs.declared.fault.ListingFault.TheVariants.{BadLine, PastRows}

-- a listed file
pub record Listed : Type 0 where
  pub name : List ℕ
  pub mtime : ℕ

-- the number that digits say, behind those that say n
abbrev pub decimal : ℕ → List ℕ → ℕ
decimal n [] = n
decimal n (d ∷ ds) = decimal (n * 10 + (d - 48)) ds

-- the digits that a line begins with, and what stands behind them and one byte more
abbrev pub digits_of : List ℕ → List ℕ
digits_of l = front (is_of Digit) l

abbrev pub name_of : List ℕ → List ℕ
name_of l = drop 1 (beyond (is_of Digit) l)

-- A decimal from 1 to 2^63 − 1 without leading zeros, one space, and a name.
abbrev pub is_row : List ℕ → Bool
is_row l =
    not (bytes_eq (take 1 l) (codes "0"))
    && (nat_le 1 (decimal 0 (digits_of l)) && (nat_le (decimal 0 (digits_of l)) 9223372036854775807
    && (bytes_eq (take 1 (beyond (is_of Digit) l)) (codes " ") && is_name (name_of l))))

abbrev pub row_of : List ℕ → Option Listed
row_of l = cond (is_row l) (Some (record { name = name_of l; mtime = decimal 0 (digits_of l) })) None

abbrev pub is_listed : List Listed → List ℕ → Bool
is_listed rows name = some (λ r. bytes_eq name r.name) rows

-- A line is not understood, or its name was listed before; or there are 512 rows already.
abbrev pub row_added : List Listed → Option Listed → Result (List Listed) ListingFault
row_added rows None = Err BadLine
row_added rows (Some r) = cond (is_listed rows r.name) (Err BadLine) (cond (nat_le 512 (length rows)) (Err PastRows) (Ok (rows ▷ r)))

-- line by line, the first of them being number `line`; the first fault ends it
abbrev pub read_rows : ℕ → List (List ℕ) → List Listed → Result (List Listed) (At ListingFault)
read_rows line [] rows = Ok rows
read_rows line (l ∷ ls) rows = elim (row_added rows (row_of l)) [ Ok more ↦ read_rows (line + 1) ls more | Err f ↦ Err (record { offset = line; value = f }) ]

-- what a listing says, or its first fault with the line
abbrev pub read_listing : List ℕ → Result (List Listed) (At ListingFault)
read_listing text = read_rows 1 (lines_of text) []
