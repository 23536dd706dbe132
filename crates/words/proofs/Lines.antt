-- Lines, one by one. Assumes nothing.
use Rattle.std.proofs.Common.{◌≡◌, ℕ, ◌+◌, ◌<◌, true, false, cond, not, eqb, List, [], ◌∷◌, length, get_or, take, drop, sym, refl, ap, ◌∙◌}
use Rattle.std.proofs.lemmas.List.{drop-take, drop-drop, drop_more}
use Rattle.words.specs.declared.class.Class.TheVariants.{InLine}
use Rattle.words.specs.Lines.{before, lines_of}
use Rattle.words.specs.Runs.{is_of, front, beyond}
use Rattle.words.proofs.Spans.{take-front, drop_run}

-- the first line, and those behind it
first-line : (b : ℕ) (bs : List ℕ) → lines_of (b ∷ bs) ≡ front (is_of InLine) (b ∷ bs) ∷ lines_of (drop 1 (beyond (is_of InLine) (b ∷ bs)))
first-line b [] =
    elim (eqb b 10) as (λ v. cond v ([] ∷ []) ((b ∷ []) ∷ []) ≡ cond (not v) (b ∷ []) [] ∷ lines_of (drop 1 (cond (not v) [] (b ∷ [])))) [ true ↦ refl | false ↦ refl ]
first-line b (c ∷ cs) =
    elim (eqb b 10) as (λ v. cond v ([] ∷ lines_of (c ∷ cs)) (before b (lines_of (c ∷ cs))) ≡ cond (not v) (b ∷ front (is_of InLine) (c ∷ cs)) [] ∷ lines_of (drop 1 (cond (not v) (beyond (is_of InLine) (c ∷ cs)) (b ∷ c ∷ cs)))) [
      | true ↦ refl
      | false ↦ ap (before b) (first-line c cs)
    ]

pub line_first : (text : List ℕ) (at end : ℕ) → at < length text → end ≡ at + length (front (is_of InLine) (drop at text)) → lines_of (drop at text) ≡ drop at (take end text) ∷ lines_of (drop (end + 1) text)
line_first text at end h e =
    let L = drop at text in
    let k = length (front (is_of InLine) L) in
    let m = drop_more text at 0 h in
    let l : drop at (take end text) ≡ front (is_of InLine) L = ap (λ (n : ℕ). drop at (take n text)) e ∙ drop-take at k text ∙ take-front (is_of InLine) L in
    let d : drop (end + 1) text ≡ drop 1 (beyond (is_of InLine) L) = sym (drop-drop 1 end text) ∙ ap (drop 1) (ap (λ (n : ℕ). drop n text) e ∙ drop_run (is_of InLine) text at) in
    ap lines_of m ∙ first-line (get_or text at 0) (drop (at + 1) text) ∙ ap (λ (xs : List ℕ). front (is_of InLine) xs ∷ lines_of (drop 1 (beyond (is_of InLine) xs))) (sym m) ∙
    ap (λ (x : List ℕ). x ∷ lines_of (drop 1 (beyond (is_of InLine) L))) (sym l) ∙ ap (λ (bs : List ℕ). drop at (take end text) ∷ lines_of bs) (sym d)
