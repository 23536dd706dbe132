-- What a listing takes for a name: the test by classes of bytes is the one of names. Assumes nothing.
use Rattle.std.proofs.Common.{◌≡◌, ◌∙◌, ℕ, zero, suc, Bool, true, false, not, ◌&&◌, ◌||◌, List, [], ◌∷◌, length, nat_le, refl, ap, sym, arith}
use Rattle.std.proofs.lemmas.Bool.{ne_eqb}
use Rattle.terms.specs.Lists.{every}
use Rattle.terms.specs.Names.{holds_zero, is_name}
use Rattle.words.specs.declared.class.Class.TheVariants.{Nonzero}
use Rattle.words.specs.Runs.{is_of}

pub nonzero-is : (n : List ℕ) → every (is_of Nonzero) n ≡ not (holds_zero n)
nonzero-is [] = refl
nonzero-is (zero ∷ xs) = refl
nonzero-is (suc b ∷ xs) =
    ap (λ v. not v && every (is_of Nonzero) xs) (ne_eqb (suc b) 0 (λ e. omega arith)) ∙ nonzero-is xs ∙ ap (λ v. not (v || holds_zero xs)) (sym (ne_eqb 0 (suc b) (λ e. omega arith)))

pub and-swapped : (a b c : Bool) → (a && (b && c)) ≡ (a && b && c)
and-swapped true b c = refl
and-swapped false b c = refl

pub name-by_class : (n : List ℕ) → (nat_le 1 (length n) && (nat_le (length n) 120 && every (is_of Nonzero) n)) ≡ is_name n
name-by_class n =
    ap (λ c. nat_le 1 (length n) && (nat_le (length n) 120 && c)) (nonzero-is n) ∙ and-swapped (nat_le 1 (length n)) (nat_le (length n) 120) (not (holds_zero n))
