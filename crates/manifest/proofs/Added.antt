-- The words of a statement that is added. Assumes nothing.
use Rattle.std.proofs.Common.{◌≡◌, ℕ, ◌+◌, ◌≤◌, false, ltb, List, [], ◌∷◌, ◌++◌, map, length, take, drop, sym, refl, ap, ◌∙◌, arith}
use Rattle.std.proofs.lemmas.List.{append_assoc, append-nil, length-append, length-map, length-drop, take-append-drop, take-append-le, drop-append-le, take_at, drop_at}
use Rattle.std.proofs.lemmas.List.Elements.{All-head, All-tail, All-push, All-weaker}
use Rattle.std.proofs.lemmas.Bool.{or_parts, ltb-false}
use Rattle.terms.specs.declared.Place.{Place}
use Rattle.terms.specs.Lists.{◌▷◌}
use Rattle.words.specs.Spelling.{name_at}
use Rattle.manifest.specs.declared.rule.Statement.{Statement}
use Rattle.manifest.specs.Building.{Build}
use Rattle.manifest.specs.Books.{Making, is_over}
use Rattle.manifest.specs.Sound.{words_end, Within}
use Rattle.manifest.specs.Stored.{Stored}
use Rattle.manifest.specs.Views.{names, making}

-- Words that are added --------------------------------------------------------------------------------------------------

module _ (text : List ℕ) (old new : List Place) (ns : List (List ℕ)) (s : Stored text old new ns) where
  pub more : new ≡ old ++ drop (length old) new
  more = sym (take-append-drop (length old) new) ∙ ap (λ (ps : List Place). ps ++ drop (length old) new) s.front

  count : length (drop (length old) new) ≡ length ns
  count = sym (length-map (drop (length old) new) (name_at text)) ∙ ap length s.added

  pub longer : length new ≡ length old + length ns
  longer = ap length more ∙ length-append old (drop (length old) new) ∙ ap (λ (k : ℕ). length old + k) count

  -- their names, wherever more is added behind them
  pub part-names : (all z : List Place) → all ≡ new ++ z → (start n : ℕ) → start ≡ length old → n ≡ length ns → names text all start n ≡ ns
  part-names all z e start n f g =
      let a = drop (length old) new in
      let h : all ≡ old ++ (a ++ z) = e ∙ ap (λ (ps : List Place). ps ++ z) more ∙ append_assoc old a z in
      let d : drop start all ≡ a ++ z = ap (drop start) h ∙ drop_at old (a ++ z) start (sym f) in
      ap (λ (ps : List Place). map (name_at text) (take n ps)) d ∙ ap (map (name_at text)) (take_at a z n (count ∙ sym g)) ∙ s.added

-- the words of one statement behind those of others
pub record Added (text : List ℕ) (old new : List Place) (O P I R : List (List ℕ)) : Type 0 where
  pub behind : List Place
  pub extends : new ≡ old ++ behind
  pub long : length new ≡ length old + length O + length P + length I + length R
  pub making_is : (line rule first o p i r : ℕ) → first ≡ length old → o ≡ length O → p ≡ length P → i ≡ length I → r ≡ length R →
      making text new (record { line = line; rule = rule; first = first; outputs = o; plain = p; implicit = i; order = r })
      ≡ record { line = line; rule = rule; outputs = O; inputs = record { plain = P; implicit = I; order = R } }
  pub outputs_are : (first o : ℕ) → first ≡ length old → o ≡ length O → names text new first o ≡ O

pub added : (text : List ℕ) (w₀ w₁ w₂ w₃ w₄ : List Place) (O P I R : List (List ℕ)) → Stored text w₀ w₁ O → Stored text w₁ w₂ P → Stored text w₂ w₃ I → Stored text w₃ w₄ R → Added text w₀ w₄ O P I R
added text w₀ w₁ w₂ w₃ w₄ O P I R a b c d =
    let z₃ = drop (length w₃) w₄ in
    let z₂ = drop (length w₂) w₃ ++ z₃ in
    let z₁ = drop (length w₁) w₂ ++ z₂ in
    let e₃ : w₄ ≡ w₃ ++ z₃ = more text w₃ w₄ R d in
    let e₂ : w₄ ≡ w₂ ++ z₂ = e₃ ∙ ap (λ (ps : List Place). ps ++ z₃) (more text w₂ w₃ I c) ∙ append_assoc w₂ (drop (length w₂) w₃) z₃ in
    let e₁ : w₄ ≡ w₁ ++ z₁ = e₂ ∙ ap (λ (ps : List Place). ps ++ z₂) (more text w₁ w₂ P b) ∙ append_assoc w₁ (drop (length w₁) w₂) z₂ in
    let l₁ : length w₁ ≡ length w₀ + length O = longer text w₀ w₁ O a in
    let l₂ : length w₂ ≡ length w₁ + length P = longer text w₁ w₂ P b in
    let l₃ : length w₃ ≡ length w₂ + length I = longer text w₂ w₃ I c in
    let l₄ : length w₄ ≡ length w₃ + length R = longer text w₃ w₄ R d in
    let end : w₄ ≡ w₄ ++ [] = sym (append-nil w₄) in
    let o_is : (first o : ℕ) → first ≡ length w₀ → o ≡ length O → names text w₄ first o ≡ O = λ first o f g. part-names text w₀ w₁ O a w₄ z₁ e₁ first o f g in
    record {
      behind = drop (length w₀) w₁ ++ z₁;
      extends = e₁ ∙ ap (λ (ps : List Place). ps ++ z₁) (more text w₀ w₁ O a) ∙ append_assoc w₀ (drop (length w₀) w₁) z₁;
      long = omega arith;
      making_is = λ line rule first o p i r f go gp gi gr.
          let F : List (List ℕ) → List (List ℕ) → List (List ℕ) → List (List ℕ) → Making = λ x y u v. record { line = line; rule = rule; outputs = x; inputs = record { plain = y; implicit = u; order = v } } in
          let eo = o_is first o f go in
          let ep = part-names text w₁ w₂ P b w₄ z₂ e₂ (first + o) p (omega arith) gp in
          let ei = part-names text w₂ w₃ I c w₄ z₃ e₃ (first + o + p) i (omega arith) gi in
          let er = part-names text w₃ w₄ R d w₄ [] end (first + o + p + i) r (omega arith) gr in
          ap (λ (x : List (List ℕ)). F x (names text w₄ (first + o) p) (names text w₄ (first + o + p) i) (names text w₄ (first + o + p + i) r)) eo ∙
          ap (λ (x : List (List ℕ)). F O x (names text w₄ (first + o + p) i) (names text w₄ (first + o + p + i) r)) ep ∙
          ap (λ (x : List (List ℕ)). F O P x (names text w₄ (first + o + p + i) r)) ei ∙
          ap (F O P I) er;
      outputs_are = o_is;
    }

-- Statements that were there ------------------------------------------------------------------------------------------

names_same : (text : List ℕ) (old z : List Place) (start n : ℕ) → start + n ≤ length old → names text (old ++ z) start n ≡ names text old start n
names_same text old z start n h =
    ap (λ (ps : List Place). map (name_at text) (take n ps)) (drop-append-le start old z (omega arith)) ∙
    ap (map (name_at text)) (take-append-le n (drop start old) z (omega (arith, length-drop start old)))

making-same : (text : List ℕ) (old z : List Place) (s : Statement) → words_end s ≤ length old → making text (old ++ z) s ≡ making text old s
making-same text old z s h =
    let F : List (List ℕ) → List (List ℕ) → List (List ℕ) → List (List ℕ) → Making = λ x y u v. record { line = s.line; rule = s.rule; outputs = x; inputs = record { plain = y; implicit = u; order = v } } in
    let all = old ++ z in
    let p = s.first + s.outputs in
    let i = p + s.plain in
    let r = i + s.implicit in
    ap (λ (x : List (List ℕ)). F x (names text all p s.plain) (names text all i s.implicit) (names text all r s.order)) (names_same text old z s.first s.outputs (omega arith)) ∙
    ap (λ (x : List (List ℕ)). F (names text old s.first s.outputs) x (names text all i s.implicit) (names text all r s.order)) (names_same text old z p s.plain (omega arith)) ∙
    ap (λ (x : List (List ℕ)). F (names text old s.first s.outputs) (names text old p s.plain) x (names text all r s.order)) (names_same text old z i s.implicit (omega arith)) ∙
    ap (F (names text old s.first s.outputs) (names text old p s.plain) (names text old i s.implicit)) (names_same text old z r s.order (omega arith))

pub makings_same : (text : List ℕ) (old new z : List Place) (ss : List Statement) → new ≡ old ++ z → Within (length old) ss → map (making text new) ss ≡ map (making text old) ss
makings_same text old new z [] e w = refl
makings_same text old new z (s ∷ ss) e w =
    let P : Statement → Type 0 = λ s. words_end s ≤ length old in
    ap (λ (m : Making). m ∷ map (making text new) ss) (ap (λ (ps : List Place). making text ps s) e ∙ making-same text old z s (All-head P s ss w)) ∙
    ap (λ (ms : List Making). making text old s ∷ ms) (makings_same text old new z ss e (All-tail P s ss w))

pub within_more : (m n : ℕ) (ss : List Statement) (s : Statement) → m ≤ n → Within m ss → words_end s ≤ n → Within n (ss ▷ s)
within_more m n ss s h w e = All-push (λ x. words_end x ≤ n) ss s (All-weaker (λ x. words_end x ≤ m) (λ x. words_end x ≤ n) (λ x p. omega arith) ss w) e

-- Limits -------------------------------------------------------------------------------------------------------------------

pub within_limits : (b : Build) → is_over b ≡ false → (length b.outputs ≤ 8) × (length b.inputs.plain + length b.inputs.implicit + length b.inputs.order ≤ 32)
within_limits b e =
    let n = length b.inputs.plain + length b.inputs.implicit + length b.inputs.order in
    let p = or_parts (ltb 8 (length b.outputs)) _ e in
    let q = or_parts (ltb 32 n) _ p.1 in
    (ltb-false 8 (length b.outputs) p.0, ltb-false 32 n q.0)
