use borrow.Rule.Slice.PartMut.{put_mid}
use Rattle.std.proofs.Common.{◌≡◌, ℕ, ◌+◌, ◌-◌, ◌*◌, List, ◌++◌, length, take, drop, sym, refl, ap, ◌∙◌, arith}
use Rattle.std.proofs.lemmas.List.{append-nil, take_all}
use Rattle.image.specs.Bytes.{deps, word, long, words, record_bytes}
use Rattle.image.specs.View.{entry_of}
use Rattle.image.proofs.Writes.{Fronted, deps-head, length-deps, long-is, too_short, fronted_first, fronted-more, words-more, length-head, all-written}
use Rattle.image.proofs.writer.write_deps.Goals as goal

pub returns-then-buf-size : goal.returns-then-buf-size
returns-then-buf-size c =
    let e = entry_of c.args.entry.now in
    let n = ap length c.inputs-inputs.ensures.ids in
    too_short (record_bytes 0 (deps c.args.output e.mtime e.inputs)) c.args.buf.now _ (omega (arith, length-deps c.args.output e.mtime e.inputs, n)) c.if-buf-size.true

pub loop-k-init : goal.loop-k-init
loop-k-init c =
    let old = c.args.buf.now in
    let o = c.args.output in
    let m = (entry_of c.args.entry.now).mtime in
    let w : ℕ = 2147483648 + (12 + 4 * length c.inputs-inputs.result.now) in
    let b1 : List ℕ = c.copy_from_slice.new.self ++ drop 4 old in
    let b2 : List ℕ = put_mid 4 4 b1 c.copy_from_slice-2.new.self in
    let b3 : List ℕ = put_mid 8 8 b2 c.copy_from_slice-3.new.self in
    let s1 : Fronted (word w) old b1 = fronted_first old c.copy_from_slice.new.self (word w) 4 (c.copy_from_slice.ensures.after ∙ c.to_le_bytes.ensures) refl in
    let s2 : Fronted (word w ++ word o) old b2 = fronted-more (word w) old b1 c.copy_from_slice-2.new.self (word o) 4 4 s1 refl (c.copy_from_slice-2.ensures.after ∙ c.to_le_bytes-2.ensures) refl in
    let s3 : Fronted (deps-head w o m) old b3 =
    fronted-more (word w ++ word o) old b2 c.copy_from_slice-3.new.self (long m) 8 8 s2 refl
    (c.copy_from_slice-3.ensures.after ∙ c.to_le_bytes-3.ensures ∙ long-is c.mtime.result ∙ ap long c.mtime.ensures) refl in
    s3 ∙ ap (λ (xs : List ℕ). xs ++ drop (length xs) old) (sym (append-nil (deps-head w o m)))

pub loop-k-preserved : goal.loop-k-preserved
loop-k-preserved c =
    let old = c.args.buf.now in
    let ids = c.inputs-inputs.result.now in
    let k = c.loop-k.k in
    let h : List ℕ = deps-head (2147483648 + (12 + 4 * length ids)) c.args.output (entry_of c.args.entry.now).mtime in
    fronted-more (h ++ words (take k ids)) old c.loop-k.buf c.copy_from_slice-in-loop-k.new.self c.to_le_bytes-in-loop-k.result (16 + 4 * k) (20 + 4 * k - (16 + 4 * k)) c.loop-k.invariant
    (sym (length-head (2147483648 + (12 + 4 * length ids)) c.args.output (entry_of c.args.entry.now).mtime ids k (omega (arith, c.loop-k-test.true)))) c.copy_from_slice-in-loop-k.ensures.after (omega (arith, ap length c.to_le_bytes-in-loop-k.ensures)) ∙
    ap (λ (xs : List ℕ). xs ++ drop (length xs) old) (words-more h ids k c.to_le_bytes-in-loop-k.result c.loop-k-test.true c.to_le_bytes-in-loop-k.ensures)

pub returns : goal.returns
returns c =
    let old = c.args.buf.now in
    let e = entry_of c.args.entry.now in
    let o = c.args.output in
    let ids = c.inputs-inputs.result.now in
    let F : List ℕ → List ℕ = λ xs. deps-head (2147483648 + (12 + 4 * length xs)) o e.mtime ++ words xs in
    let a : deps-head (2147483648 + (12 + 4 * length ids)) o e.mtime ++ words (take c.loop-k.k ids) ≡ F ids =
    ap (λ (xs : List ℕ). deps-head (2147483648 + (12 + 4 * length ids)) o e.mtime ++ words xs) (take_all c.loop-k.k ids c.loop-k-test.false) in
    all-written (record_bytes 0 (deps o e.mtime e.inputs)) old c.loop-k.buf (4 + (12 + 4 * length ids))
    (c.loop-k.invariant ∙ ap (λ (xs : List ℕ). xs ++ drop (length xs) old) (a ∙ ap F c.inputs-inputs.ensures.ids))
    (omega (arith, length-deps o e.mtime e.inputs, ap length c.inputs-inputs.ensures.ids)) c.if-buf-size.false
