-- Rules that are declared, and statements that are added. Assumes nothing.
use Rattle.std.proofs.Common.{◌≡◌, ℕ, ◌<◌, ◌≤◌, true, false, cond, ◌||◌, leb, List, length, is_some, Some, None, Ok, Err, Option, Result, sym, refl, ap, ◌∙◌}
use Rattle.std.proofs.lemmas.Bool.{cond-true, cond-false, lt-ltb, le-leb, lt-leb, le-ltb, or_left, or_right, or_from, both_ways}
use Rattle.manifest.specs.declared.fault.Fault.{Fault}
use Rattle.manifest.specs.declared.fault.Fault.TheVariants.{PastLimit}
use Rattle.manifest.specs.Building.{Build}
use Rattle.manifest.specs.Books.{Book, Reading, is_over, add_rule, declared_by, stated_by}
use Rattle.manifest.specs.Groups.{is_long}

pub none_from : {A : Type 0} (o : Option A) → is_some o ≡ false → o ≡ None
none_from None e = refl
none_from (Some x) e = absurd (both_ways true e refl)

module _ (b : Book) (name : List ℕ) (o : Option ℕ) (e : o ≡ None) where
  pub declared_many : 64 ≤ length b.rules → Err PastLimit ≡ declared_by b name o
  declared_many h =
      sym (ap (declared_by b name) e ∙ cond-true (leb 64 (length b.rules) || is_long name) _ _ (or_left (leb 64 (length b.rules)) (is_long name) (le-leb 64 (length b.rules) h)))

  pub declared-long : 120 < length name → Err PastLimit ≡ declared_by b name o
  declared-long h =
      sym (ap (declared_by b name) e ∙ cond-true (leb 64 (length b.rules) || is_long name) _ _ (or_right (leb 64 (length b.rules)) (is_long name) (lt-ltb 120 (length name) h)))

  pub declared-new : length b.rules < 64 → length name ≤ 120 → Ok (add_rule b name) ≡ declared_by b name o
  declared-new h k =
      sym (ap (declared_by b name) e ∙ cond-false (leb 64 (length b.rules) || is_long name) _ _
      (or_from (leb 64 (length b.rules)) (is_long name) (lt-leb 64 (length b.rules) h) (le-ltb 120 (length name) k)))

module _ (line : ℕ) (b : Book) (s : Build) (o : Option ℕ) where
  module _ (rule : ℕ) (e : o ≡ Some rule) where
    pub stated-many : 128 ≤ length b.statements → Err PastLimit ≡ stated_by line b s o
    stated-many h =
        sym (ap (stated_by line b s) e ∙ cond-true (leb 128 (length b.statements) || is_over s) _ _ (or_left (leb 128 (length b.statements)) (is_over s) (le-leb 128 (length b.statements) h)))

    pub stated-within : (x : Result Reading Fault) → length b.statements < 128 → is_over s ≡ false → stated_by line b s (Some rule) ≡ cond (leb 128 (length b.statements) || is_over s) (Err PastLimit) x → x ≡ stated_by line b s o
    stated-within x h k f =
        sym (ap (stated_by line b s) e ∙ f ∙ cond-false (leb 128 (length b.statements) || is_over s) (Err PastLimit) x
        (or_from (leb 128 (length b.statements)) (is_over s) (lt-leb 128 (length b.statements) h) k))
