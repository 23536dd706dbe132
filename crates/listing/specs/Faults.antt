-- The refusal for each kind of fault. Assumes nothing.
use Rattle.std.specs.Prelude.{ℕ}
use Rattle.terms.specs.declared.Refusal.{Refusal}
use Rattle.terms.specs.declared.Refusal.TheVariants as refusal
use Rattle.listing.specs.declared.fault.ListingFault.{ListingFault}
use Rattle.listing.specs.declared.fault.ListingFault.TheVariants.{BadLine, PastRows}

-- the refusal for each kind of fault, with its line
abbrev pub listing_refusal : ℕ → ListingFault → Refusal
listing_refusal line BadLine = refusal.ListingLine line
listing_refusal line PastRows = refusal.PastLimit line
