-- The number and the place of each refusal. Assumes nothing.
use Rattle.std.specs.Prelude.{ℕ}
use Rattle.terms.specs.declared.Refusal.{Refusal}
use Rattle.terms.specs.declared.Refusal.TheVariants.{PowerOff, PowerLost, Full, Closed, AlreadyOpen, NoHeader, OverLimit, CopyShort, NotName, Outside, TooManyInputs, TooManyPaths, ManifestLine, RuleDeclared, MadeTwice, PastLimit, ListingLine, OnCycle, MemoryShort}

abbrev pub number_and_place : Refusal → ℕ × ℕ
number_and_place PowerOff = (1, 0)
number_and_place PowerLost = (1, 1)
number_and_place Full = (2, 0)
number_and_place Closed = (3, 0)
number_and_place AlreadyOpen = (4, 0)
number_and_place NoHeader = (5, 0)
number_and_place (OverLimit offset) = (6, offset)
number_and_place (CopyShort length) = (7, length)
number_and_place (NotName index) = (8, index)
number_and_place (Outside index) = (9, index)
number_and_place TooManyInputs = (10, 64)
number_and_place TooManyPaths = (11, 0)
number_and_place (ManifestLine line) = (14, line)
number_and_place (RuleDeclared line) = (15, line)
number_and_place (MadeTwice line) = (16, line)
number_and_place (PastLimit line) = (17, line)
number_and_place (ListingLine line) = (18, line)
number_and_place (OnCycle line) = (19, line)
number_and_place (MemoryShort need) = (20, need)

abbrev pub number_of : Refusal → ℕ
number_of r = (number_and_place r).0

abbrev pub place_of : Refusal → ℕ
place_of r = (number_and_place r).1
