use Rattle.std.proofs.Common.{◌≡◌, Bool, true, false, ◌&&◌, drop, Some, codes, sym, refl, ap, ◌∙◌}
use Rattle.std.specs.Str.{bytes_eq}
use Rattle.std.proofs.lemmas.Bool.{and_left, both_ways}
use Rattle.manifest.specs.Bindings.{key_of, binds_deps, binding_of}
use Rattle.manifest.proofs.Bound.{no_key, no_equals, bound, key_taken, value_taken}
use Rattle.manifest.proofs.binding.binding_at.Goals as goal
use Rattle.manifest.proofs.binding.binding_at.Goals.{After-eq-gcc}

pub returns-then-past-key : goal.returns-then-past-key
returns-then-past-key c = no_key c.args.bytes.now c.args.at _ _ _ c.span_end-key.ensures.end c.span_end-past.ensures.end c.span_end-equals.ensures.end c.if-past-key.true

pub returns-then-not-begins : goal.returns-then-not-begins
returns-then-not-begins c =
    no_equals c.args.bytes.now c.args.at _ _ _ c.span_end-key.ensures.end c.span_end-past.ensures.end c.span_end-equals.ensures.end (sym c.begins.ensures ∙ c.if-not-begins.true)

both_hold : (a b : Bool) → a ≡ true → b ≡ (a && b)
both_hold true b e = refl
both_hold false b e = absurd (both_ways false refl e)

one_fails : (a b : Bool) → a ≡ false → a ≡ (a && b)
one_fails a b e = e ∙ sym (and_left a b e)

-- what the two comparisons say
said : (c : After-eq-gcc) → (c.eq-deps.result && c.eq-gcc.result) ≡ binds_deps (drop c.args.at c.args.bytes.now)
said c =
    let xs = c.args.bytes.now in
    let k = c.eq-deps.ensures ∙ ap (bytes_eq c.part.result.now) c.as_slice.ensures ∙ ap (λ ys. bytes_eq ys (codes "deps")) (c.part.ensures ∙ key_taken xs c.args.at _ _ _ c.span_end-key.ensures.end c.span_end-past.ensures.end c.span_end-equals.ensures.end) in
    let v = c.eq-gcc.ensures ∙ ap (bytes_eq c.part-2.result.now) c.as_slice-2.ensures ∙ ap (λ ys. bytes_eq ys (codes "gcc")) (c.part-2.ensures ∙ value_taken xs c.args.at _ _ _ c.span_end-key.ensures.end c.span_end-past.ensures.end c.span_end-equals.ensures.end _ c.span_end-value.ensures.end) in
    ap (λ (d : Bool). d && c.eq-gcc.result) k ∙ ap (λ (g : Bool). bytes_eq (key_of (drop c.args.at xs)) (codes "deps") && g) v

binds : (c : After-eq-gcc) → Some (binds_deps (drop c.args.at c.args.bytes.now)) ≡ binding_of (drop c.args.at c.args.bytes.now)
binds c =
    bound c.args.bytes.now c.args.at _ _ _ c.span_end-key.ensures.end c.span_end-past.ensures.end c.span_end-equals.ensures.end
    (sym c.all_of.ensures ∙ c.if-not-all_of.false) c.if-past-key.false (sym c.begins.ensures ∙ c.if-not-begins.false)

pub returns-then-deps : goal.returns-then-deps
returns-then-deps c =
    let d = (goal.at.returns-then-deps c).After-eq-gcc in
    ap (λ (b : Bool). Some b) (both_hold c.eq-deps.result c.eq-gcc.result c.if-deps.true ∙ said d) ∙ binds d

pub returns-else-deps : goal.returns-else-deps
returns-else-deps c =
    let d = (goal.at.returns-else-deps c).After-eq-gcc in
    ap (λ (b : Bool). Some b) (one_fails c.eq-deps.result c.eq-gcc.result c.if-deps.false ∙ said d) ∙ binds d
