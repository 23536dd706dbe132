-- Names as places in some bytes. Assumes nothing.
use Rattle.std.proofs.Common.{◌≡◌, ℕ, ◌+◌, ◌<◌, Bool, true, false, cond, not, List, length, get_or, drop, Some, None, Ok, Err, Option, Result, sym, refl, arith}
use Rattle.std.proofs.lemmas.List.{at_drop_more}
use Rattle.terms.specs.declared.Place.{Place}
use Rattle.terms.specs.declared.Refusal.{Refusal}
use Rattle.terms.specs.declared.Refusal.TheVariants.{Outside, NotName}
use Rattle.terms.specs.Names.{is_name}
use Rattle.depslog.specs.Calls.{fault_or}
use Rattle.terms.specs.Places.{at_place}
use Rattle.depslog.specs.Noting.{outside, place_fault, name_fault}

-- Name by name -------------------------------------------------------------------------------------------------------------

-- the answer of checks
abbrev pub Checked : Option Refusal → Result (Unit {0}) Refusal
Checked o = fault_or o tt

never : (f : Refusal) → Err f ≡ Checked None → ⊥
never f e = let z : ◌≡◌ {A = ℕ} 0 1 = cc in omega arith

-- two checks and what follows them: a fault is the same, whatever follows
first_of : (a b : Bool) (x y f : Refusal) (o : Option Refusal) → Err f ≡ Checked (cond a (Some x) (cond b (Some y) None)) → Err f ≡ Checked (cond a (Some x) (cond b (Some y) o))
first_of true b x y f o e = e
first_of false true x y f o e = e
first_of false false x y f o e = absurd (never f e)

-- and where there is none, only what follows is left
rest_of : (a b : Bool) (x y : Refusal) (o : Option Refusal) → Ok tt ≡ Checked (cond a (Some x) (cond b (Some y) None)) → cond a (Some x) (cond b (Some y) o) ≡ o
rest_of true b x y o e = absurd (never x (sym e))
rest_of false true x y o e = absurd (never y (sym e))
rest_of false false x y o e = refl

pub place-bad : (bytes : List ℕ) (i : ℕ) (p : Place) (f : Refusal) (o : Option Refusal) → Err f ≡ Checked (place_fault bytes i p None) → Err f ≡ Checked (place_fault bytes i p o)
place-bad bytes i p f o e = first_of (outside bytes p) (not (is_name (at_place bytes p))) (Outside i) (NotName i) f o e

pub place-good : (bytes : List ℕ) (i : ℕ) (p : Place) (o : Option Refusal) → Ok tt ≡ Checked (place_fault bytes i p None) → place_fault bytes i p o ≡ o
place-good bytes i p o e = rest_of (outside bytes p) (not (is_name (at_place bytes p))) (Outside i) (NotName i) o e

-- the places from the k-th on
pub names-next : (bytes : List ℕ) (i k : ℕ) (ps : List Place) (d : Place) → k < length ps →
    name_fault bytes i (drop k ps) None ≡ place_fault bytes i (get_or ps k d) (name_fault bytes (i + 1) (drop (k + 1) ps) None)
names-next bytes i k ps d h = at_drop_more (λ (qs : List Place). name_fault bytes i qs None) ps k d h
