-- When a call of the log is refused, in the order of its checks; the power aside. Assumes nothing.
use Rattle.std.specs.Prelude.{ℕ, Bool, cond, not, ◌&&◌, List, length, Some, None, Option, nat_lt}
use Rattle.std.specs.Str.{bytes_eq}
use Rattle.terms.specs.declared.Refusal.{Refusal}
use Rattle.terms.specs.declared.Refusal.TheVariants.{Full, Closed, NoHeader, OverLimit, CopyShort, NotName}
use Rattle.terms.specs.Names.{is_name}
use Rattle.image.specs.Scans.{has_header, image_of, over_limit, good_bytes}

-- one check: its refusal where it fails, and else the checks that follow
abbrev pub refuse : Refusal → Bool → Option Refusal → Option Refusal
refuse r fails after = cond fails (Some r) after

-- the good bytes differ from the live ones, so that an open replaces these
abbrev pub mends : List ℕ → Bool
mends live = not (bytes_eq (good_bytes live) live)

-- a record over a limit, at its offset
abbrev pub over_fault : Option ℕ → Option Refusal → Option Refusal
over_fault None after = after
over_fault (Some offset) after = Some (OverLimit offset)

-- an open with a copy buffer of so many bytes, once the power is on
abbrev pub open_fault : (capacity : ℕ) (live : List ℕ) (buffer : ℕ) → Option Refusal
open_fault capacity live buffer =
    refuse (CopyShort (length live)) (nat_lt buffer (length live))
    (refuse NoHeader (not (has_header (image_of live)))
    (over_fault (over_limit live)
    (refuse Full (mends live && nat_lt capacity (length (good_bytes live))) None)))

abbrev pub sync_fault : (is_open : Bool) → Option Refusal
sync_fault is_open = refuse Closed (not is_open) None

abbrev pub find_fault : (is_open : Bool) (output : List ℕ) → Option Refusal
find_fault is_open output = refuse Closed (not is_open) (refuse (NotName 0) (not (is_name output)) None)
