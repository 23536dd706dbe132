-- What a line of a listing says, part by part. Assumes nothing.
use Rattle.std.proofs.Common.{◌≡◌, ℕ, ◌+◌, ◌-◌, ◌<◌, ◌≤◌, Bool, true, false, cond, not, leb, List, length, take, drop, Some, None, Ok, Err, codes, Option, sym, refl, ap, ◌∙◌, arith}
use Rattle.std.specs.Str.{bytes_eq}
use Rattle.std.proofs.lemmas.Slice.Eq.{bytes_eq-Decides}
use Rattle.std.proofs.lemmas.List.{drop-take, drop-drop, take-take, take_all, length-take, length-drop}
use Rattle.std.proofs.lemmas.Bool.{cond-true, cond-false, and_from, and_left, and_right, not_from_false, le-leb, lt-leb}
use Rattle.terms.specs.Lists.{◌▷◌}
use Rattle.terms.specs.Names.{is_name}
use Rattle.words.specs.declared.class.Class.TheVariants.{Digit}
use Rattle.words.specs.Runs.{is_of, front, beyond}
use Rattle.words.proofs.Spans.{take-front, drop_run}
use Rattle.listing.specs.declared.fault.ListingFault.TheVariants.{BadLine, PastRows}
use Rattle.listing.specs.Rows.{Listed, decimal, digits_of, name_of, is_row, row_of, is_listed, row_added}

-- a number that was found is the one that was meant
pub found_number : (b : Bool) (n m : ℕ) → Some m ≡ cond b (Some n) None → (b ≡ true) × (m ≡ n)
found_number true n m e = (refl, cc)
found_number false n m e = absurd (let z : ◌≡◌ {A = ℕ} 0 1 = cc in omega arith)

pub no_number : (b : Bool) (n : ℕ) → None ≡ cond b (Some n) None → b ≡ false
no_number true n e = absurd (let z : ◌≡◌ {A = ℕ} 0 1 = cc in omega arith)
no_number false n e = refl

-- Where a line breaks a rule ---------------------------------------------------------------------------------------------

module _ (l : List ℕ) where
  none : is_row l ≡ false → None ≡ row_of l
  none e = sym (cond-false (is_row l) (Some (record { name = name_of l; mtime = decimal 0 (digits_of l) })) None e)

  pub no_value : leb 1 (decimal 0 (digits_of l)) ≡ false → None ≡ row_of l
  no_value e = none (and_right (not (bytes_eq (take 1 l) (codes "0"))) _ (and_left (leb 1 (decimal 0 (digits_of l))) _ e))

  pub too_large : leb (decimal 0 (digits_of l)) 9223372036854775807 ≡ false → None ≡ row_of l
  too_large e = none (and_right (not (bytes_eq (take 1 l) (codes "0"))) _ (and_right (leb 1 (decimal 0 (digits_of l))) _ (and_left (leb (decimal 0 (digits_of l)) 9223372036854775807) _ e)))

  pub no_space : bytes_eq (take 1 (beyond (is_of Digit) l)) (codes " ") ≡ false → None ≡ row_of l
  no_space e =
      none (and_right (not (bytes_eq (take 1 l) (codes "0"))) _ (and_right (leb 1 (decimal 0 (digits_of l))) _ (and_right (leb (decimal 0 (digits_of l)) 9223372036854775807) _
      (and_left (bytes_eq (take 1 (beyond (is_of Digit) l)) (codes " ")) (is_name (name_of l)) e))))

  pub no_name : is_name (name_of l) ≡ false → None ≡ row_of l
  no_name e =
      none (and_right (not (bytes_eq (take 1 l) (codes "0"))) _ (and_right (leb 1 (decimal 0 (digits_of l))) _ (and_right (leb (decimal 0 (digits_of l)) 9223372036854775807) _
      (and_right (bytes_eq (take 1 (beyond (is_of Digit) l)) (codes " ")) (is_name (name_of l)) e))))

  pub a_row : bytes_eq (take 1 l) (codes "0") ≡ false → leb 1 (decimal 0 (digits_of l)) ≡ true → leb (decimal 0 (digits_of l)) 9223372036854775807 ≡ true → bytes_eq (take 1 (beyond (is_of Digit) l)) (codes " ") ≡ true →
      is_name (name_of l) ≡ true → (name : List ℕ) (mtime : ℕ) → name ≡ name_of l → mtime ≡ decimal 0 (digits_of l) → Some (record { name = name; mtime = mtime }) ≡ row_of l
  a_row z v t s n name mtime e f =
      let F : List ℕ → ℕ → Option Listed = λ x y. Some (record { name = x; mtime = y }) in
      ap (λ x. F x mtime) e ∙ ap (F (name_of l)) f ∙
      sym (cond-true (is_row l) (Some (record { name = name_of l; mtime = decimal 0 (digits_of l) })) None
      (and_from (not (bytes_eq (take 1 l) (codes "0"))) _ (not_from_false (bytes_eq (take 1 l) (codes "0")) z)
      (and_from (leb 1 (decimal 0 (digits_of l))) _ v (and_from (leb (decimal 0 (digits_of l)) 9223372036854775807) _ t
      (and_from (bytes_eq (take 1 (beyond (is_of Digit) l)) (codes " ")) (is_name (name_of l)) s n)))))

-- Where its parts stand --------------------------------------------------------------------------------------------------

module _ (text : List ℕ) (end at past : ℕ) (p : past ≡ at + length (front (is_of Digit) (drop at (take end text)))) where
  pub digits_taken : take (past - at) (drop at (take end text)) ≡ digits_of (drop at (take end text))
  digits_taken =
      let n : past - at ≡ length (front (is_of Digit) (drop at (take end text))) = omega arith in
      ap (λ (m : ℕ). take m (drop at (take end text))) n ∙ take-front (is_of Digit) (drop at (take end text))

  pub from_past : drop past (take end text) ≡ beyond (is_of Digit) (drop at (take end text))
  from_past = ap (λ (n : ℕ). drop n (take end text)) p ∙ drop_run (is_of Digit) (take end text) at

  -- where a space was read, the line goes on
  pub space_within : bytes_eq (take 1 (drop past (take end text))) (codes " ") ≡ true → past < length (take end text)
  space_within e =
      let f : take 1 (drop past (take end text)) ≡ codes " " = (bytes_eq-Decides (take 1 (drop past (take end text))) (codes " ")).0 e in
      let k : length (take 1 (drop past (take end text))) ≡ 1 = ap length f in
      omega (arith, length-take 1 (drop past (take end text)), length-drop past (take end text))

  pub name-placed : past < length (take end text) → (n : ℕ) → n ≡ length (take end text) - past - 1 → take n (drop (past + 1) text) ≡ name_of (drop at (take end text))
  name-placed h n e =
      let W = take end text in
      let k : end ≡ past + 1 + (end - (past + 1)) = omega (arith, length-take end text) in
      let d : drop (past + 1) W ≡ take (end - (past + 1)) (drop (past + 1) text) = ap (λ (m : ℕ). drop (past + 1) (take m text)) k ∙ drop-take (past + 1) (end - (past + 1)) text in
      let t : take n (drop (past + 1) text) ≡ drop (past + 1) W =
      sym (take-take n (end - (past + 1)) (drop (past + 1) text) (omega (arith, length-take end text))) ∙ ap (take n) (sym d) ∙ take_all n (drop (past + 1) W) (omega (arith, length-drop (past + 1) W)) in
      t ∙ sym (drop-drop 1 past W) ∙ ap (drop 1) from_past

-- the same, of a line that is held by itself
module _ (text L : List ℕ) (end at past : ℕ) (w : L ≡ take end text) (q : past ≡ at + length (front (is_of Digit) (drop at L))) where
  in_line : past ≡ at + length (front (is_of Digit) (drop at (take end text)))
  in_line = q ∙ ap (λ (xs : List ℕ). at + length (front (is_of Digit) (drop at xs))) w

  pub value_is : (part : List ℕ) (o : Option ℕ) → part ≡ take (past - at) (drop at L) → o ≡ cond (leb (decimal 0 part) 9223372036854775807) (Some (decimal 0 part)) None →
      o ≡ cond (leb (decimal 0 (digits_of (drop at (take end text)))) 9223372036854775807) (Some (decimal 0 (digits_of (drop at (take end text))))) None
  value_is part o e f =
      let V : List ℕ → Option ℕ = λ ds. cond (leb (decimal 0 ds) 9223372036854775807) (Some (decimal 0 ds)) None in
      f ∙ ap V (e ∙ ap (λ (xs : List ℕ). take (past - at) (drop at xs)) w ∙ digits_taken text end at past in_line)

  pub space_is : (b : Bool) → b ≡ bytes_eq (take 1 (drop past L)) (codes " ") → bytes_eq (take 1 (beyond (is_of Digit) (drop at (take end text)))) (codes " ") ≡ b
  space_is b e = sym (e ∙ ap (λ (xs : List ℕ). bytes_eq (take 1 (drop past xs)) (codes " ")) w ∙ ap (λ (xs : List ℕ). bytes_eq (take 1 xs) (codes " ")) (from_past text end at past in_line))

  pub inside : (b : Bool) → b ≡ bytes_eq (take 1 (drop past L)) (codes " ") → b ≡ true → past < length (take end text)
  inside b e t = space_within text end at past in_line (ap (λ (xs : List ℕ). bytes_eq (take 1 (drop past xs)) (codes " ")) (sym w) ∙ sym e ∙ t)

  pub named : (bs : List ℕ) → past < length (take end text) → bs ≡ take (length L - past - 1) (drop (past + 1) text) → bs ≡ name_of (drop at (take end text))
  named bs h e = e ∙ name-placed text end at past in_line h (length L - past - 1) (ap (λ (xs : List ℕ). length xs - past - 1) w)

-- Rows that are added -----------------------------------------------------------------------------------------------------

module _ (rows : List Listed) (o : Option Listed) (r : Listed) (e : Some r ≡ o) where
  pub listed-before : is_listed rows r.name ≡ true → Err BadLine ≡ row_added rows o
  listed-before f = sym (ap (row_added rows) (sym e) ∙ cond-true (is_listed rows r.name) _ _ f)

  pub rows_many : is_listed rows r.name ≡ false → 512 ≤ length rows → Err PastRows ≡ row_added rows o
  rows_many f h = sym (ap (row_added rows) (sym e) ∙ cond-false (is_listed rows r.name) _ _ f ∙ cond-true (leb 512 (length rows)) _ _ (le-leb 512 (length rows) h))

  pub row_new : is_listed rows r.name ≡ false → length rows < 512 → Ok (rows ▷ r) ≡ row_added rows o
  row_new f h = sym (ap (row_added rows) (sym e) ∙ cond-false (is_listed rows r.name) _ _ f ∙ cond-false (leb 512 (length rows)) _ _ (lt-leb 512 (length rows) h))
