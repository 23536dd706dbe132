-- The laws of reading and filling, of the calls' answers. Assumes nothing.
use Rattle.std.proofs.Common.{◌≡◌, ℕ, List, length, drop, None, Ok, Result, sym, ap, ◌∙◌, subst}
use Rattle.terms.specs.declared.Refusal.{Refusal}
use Rattle.image.specs.declared.filled.Filled.{Filled}
use Rattle.image.specs.Reading.{Reading, good, read_front, next_offset, read_at}
use Rattle.image.specs.Tables.{Table}
use Rattle.image.specs.Scans.{filled}
use Rattle.image.specs.Laws.{Torn, ReadsBack, ReadsTorn, FillsWritten}
use Rattle.image.proofs.Back.{reads-back, next-behind, part-torn}
use Rattle.image.proofs.WholeImage.{fills_written}

pub reads_it_back : (known : List (List ℕ)) (image : List ℕ) (at : ℕ) (x : Reading) (n : ℕ) → (x, n) ≡ read_at known image at → ReadsBack known image at x n
reads_it_back known image at x n e r rest w d =
    let a : read_front known (drop at image) ≡ good r = ap (read_front known) d ∙ reads-back known r rest w in
    (ap (λ (p : Reading × ℕ). p.0) e ∙ a, ap (λ (p : Reading × ℕ). p.1) e ∙ ap (next_offset image at) a ∙ next-behind known image at r rest w d)

pub reads_it_torn : (known : List (List ℕ)) (image : List ℕ) (at : ℕ) (x : Reading) (n : ℕ) → (x, n) ≡ read_at known image at → ReadsTorn known image at x
reads_it_torn known image at x n e r k w p h d =
    subst Torn (sym (ap (λ (q : Reading × ℕ). q.0) e ∙ ap (read_front known) d)) (part-torn known r k w p h)

pub fills_it : (image : List ℕ) (answer : Result Filled Refusal) (table : Table) → (answer, table) ≡ filled image → FillsWritten image answer table
fills_it image answer table e rs w i =
    let a = e ∙ ap filled i ∙ fills_written rs w in
    let P : Type 0 = Result Filled Refusal × Table in
    let ok : ℕ → Result Filled Refusal = λ n. Ok (record { records = length rs; length = n; tail = None }) in
    (ap (λ (p : P). p.0) a ∙ ap (λ (xs : List ℕ). ok (length xs)) (sym i), ap (λ (p : P). p.1) a)
