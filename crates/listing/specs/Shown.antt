-- What the rows that are kept of a listing stand for. Assumes nothing.
use Rattle.std.specs.Prelude.{ℕ, cond, List, map, Ok, Err, Result, nat_lt}
use Rattle.terms.specs.declared.At.{At}
use Rattle.terms.specs.Faulty.{refused_by}
use Rattle.terms.specs.declared.Refusal.{Refusal}
use Rattle.terms.specs.declared.Refusal.TheVariants as refusal
use Rattle.terms.specs.Places.{at_place}
use Rattle.listing.specs.declared.fault.ListingFault.{ListingFault}
use Rattle.listing.specs.declared.listing.Listing.{Listing}
use Rattle.listing.specs.declared.row.Row.{Row}
use Rattle.listing.specs.Faults.{listing_refusal}
use Rattle.listing.specs.Rows.{Listed}

abbrev pub listed : List ℕ → Row → Listed
listed text r = record { name = at_place text r.name; mtime = r.mtime }

abbrev pub listing_refused : Result (List Listed) (At ListingFault) → Result (List Listed) Refusal
listing_refused r = refused_by listing_refusal r

-- memory that is too short comes before any line
abbrev pub listing_outcome : ℕ → Result (List Listed) (At ListingFault) → Result (List Listed) Refusal
listing_outcome rows r = cond (nat_lt rows 512) (Err (refusal.MemoryShort 512)) (listing_refused r)

abbrev pub rows_in : Listing → List Listed
rows_in l = map (listed l.text.now) l.rows.now

abbrev pub rows_shown : Result Listing Refusal → Result (List Listed) Refusal
rows_shown (Ok l) = Ok (rows_in l)
rows_shown (Err r) = Err r
