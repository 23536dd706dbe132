-- What reading a manifest gives. Assumes nothing.
use Rattle.std.specs.Prelude.{ℕ, cond, map, Ok, Err, Result, nat_lt}
use Rattle.terms.specs.declared.At.{At}
use Rattle.terms.specs.Faulty.{refused_by}
use Rattle.terms.specs.declared.Refusal.{Refusal}
use Rattle.terms.specs.declared.Refusal.TheVariants as refusal
use Rattle.manifest.specs.declared.fault.Fault.{Fault}
use Rattle.manifest.specs.declared.manifest.Manifest.{Manifest}
use Rattle.manifest.specs.Books.{Book}
use Rattle.manifest.specs.Faults.{fault_refusal}
use Rattle.manifest.specs.Views.{declaration, making}

abbrev pub refused : {A : Type 0} → Result A (At Fault) → Result A Refusal
refused r = refused_by fault_refusal r

-- the first memory that is too short comes before any line
abbrev pub manifest_outcome : (rules statements words : ℕ) → Result Book (At Fault) → Result Book Refusal
manifest_outcome rules statements words r =
    cond (nat_lt rules 64) (Err (refusal.MemoryShort 64))
    (cond (nat_lt statements 128) (Err (refusal.MemoryShort 128))
    (cond (nat_lt words 5120) (Err (refusal.MemoryShort 5120)) (refused r)))

-- what a manifest that was read says
abbrev pub book_in : Manifest → Book
book_in m = record { rules = map (declaration m.text.now) m.rules.now; statements = map (making m.text.now m.words.now) m.statements.now }

abbrev pub book_shown : Result Manifest Refusal → Result Book Refusal
book_shown (Ok m) = Ok (book_in m)
book_shown (Err r) = Err r
