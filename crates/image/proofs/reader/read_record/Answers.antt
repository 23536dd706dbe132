use Rattle.std.proofs.Common.{◌≡◌, ℕ, ◌+◌, ◌-◌, true, List, length, take, drop, refl, sym, ap, ◌∙◌, arith, w32}
use Rattle.std.specs.Int.{from_le_bytes}
use Rattle.std.proofs.lemmas.List.{take_rest, length-drop}
use Rattle.image.specs.Reading.{word_at, bad, size_of, read_front}
use Rattle.image.specs.Learning.{view}
use Rattle.image.specs.declared.head.Head.{Head}
use Rattle.image.specs.Heads.{body_by}
use Rattle.image.specs.Shown.{shown, is_good}
use Rattle.image.proofs.Chunks.{word-chunk}
use Rattle.image.proofs.Readings.{answers, body_of, read_front_lem, front-good, next-good, leads_good}
use Rattle.image.proofs.Lawful.{reads_it_back, reads_it_torn}
use Rattle.image.proofs.reader.read_record.Goals as goal

pub returns-in-Ok : goal.returns-in-Ok
returns-in-Ok c =
    let known = (view c.args.known.now).names in
    let image = c.args.image.now in
    let at = c.args.at in
    let front : List ℕ = take (length image - at) (drop at image) in
    let x = shown c.in-Ok.read in
    let w = c.from_le_bytes.result in
    let p = c.in-Some.ensures.cases in
    let f : front ≡ drop at image = take_rest image at in
    let h : w ≡ word_at front 0 = c.from_le_bytes.ensures ∙ ap (from_le_bytes w32) p.0 ∙ word-chunk front in
    let e : x ≡ read_front known (drop at image) = read_front_lem known image at w front c.in-Some.rest.now x f h p.1 (omega (arith, p.2)) (c.in-Ok.ensures.value ∙ ap (λ (k : Head). body_by known k c.in-Some.rest.now) c.from-head.ensures ∙ body_of known w c.in-Some.rest.now) in
    let g : is_good x ≡ true = c.in-Ok.ensures.good in
    let l : w ≡ word_at (drop at image) 0 = h ∙ ap (λ xs. word_at xs 0) f in
    let b = front-good known (drop at image) (ap is_good (sym e) ∙ g) in
    let z : c.from-head.result.size ≡ size_of w = ap (λ (k : Head). k.size) c.from-head.ensures in
    let n : ℕ = at + 4 + c.from-head.result.size in
    let v = answers known image at x n e (ap (λ (k : ℕ). at + 4 + k) (z ∙ ap size_of l) ∙ sym (next-good image at x g)) in
    record {
      value = v;
      offset = c.in-Ok.ensures.offset;
      back = reads_it_back known image at x n v;
      torn = reads_it_torn known image at x n v;
      leads = leads_good x at n (length image) g (omega (arith, b.2, z ∙ ap size_of l)) (omega (arith, b.1, z ∙ ap size_of l, length-drop at image));
    }

pub returns-in-Err : goal.returns-in-Err
returns-in-Err c =
    let known = (view c.args.known.now).names in
    let image = c.args.image.now in
    let at = c.args.at in
    let front : List ℕ = take (length image - at) (drop at image) in
    let x = bad c.in-Err.cause in
    let w = c.from_le_bytes.result in
    let p = c.in-Some.ensures.cases in
    let h : w ≡ word_at front 0 = c.from_le_bytes.ensures ∙ ap (from_le_bytes w32) p.0 ∙ word-chunk front in
    let e : x ≡ read_front known (drop at image) =
    read_front_lem known image at w front c.in-Some.rest.now x (take_rest image at) h p.1 (omega (arith, p.2)) (c.in-Err.ensures.value ∙ ap (λ (k : Head). body_by known k c.in-Some.rest.now) c.from-head.ensures ∙ body_of known w c.in-Some.rest.now) in
    let v = answers known image at x at e refl in
    record {
      value = v;
      offset = refl;
      leads = refl;
      back = reads_it_back known image at x at v;
      torn = reads_it_torn known image at x at v;
    }
