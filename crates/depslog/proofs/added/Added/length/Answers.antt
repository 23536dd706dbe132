use Rattle.std.proofs.Common.{◌≡◌, ℕ, ◌+◌, true, List, length, get_or, take, ap, ◌∙◌, arith, Bor}
use Rattle.std.proofs.lemmas.List.{length-append, take_all}
use Rattle.terms.specs.Few.{items}
use Rattle.terms.specs.Lists.{every}
use Rattle.terms.specs.Names.{is_name}
use Rattle.image.specs.Bytes.{path, deps, record_bytes}
use Rattle.image.specs.View.{entry_of}
use Rattle.image.proofs.Naming.{name-parts}
use Rattle.image.proofs.Writes.{length-path, length-deps}
use Rattle.depslog.specs.Drafting.{paths_bytes}
use Rattle.depslog.specs.Texts.{texts}
use Rattle.depslog.proofs.Appends.{paths_push, nowhere, named_at, texts_more}
use Rattle.depslog.proofs.added.Added.length.Goals as goal

pub loop-name-preserved : goal.loop-name-preserved
loop-name-preserved c =
    let a = c.args.self.now in
    let xs = c.as_slice-name-items.result.now in
    let k = c.loop-name.name-index in
    let h = c.loop-name-test.true in
    let e : every is_name (texts xs) ≡ true = ap (λ (ys : List (Bor (List ℕ))). every is_name (texts ys)) c.as_slice-name-items.ensures.items ∙ a.named in
    let n : List ℕ = (get_or xs k nowhere).now in
    let q = name-parts n (named_at xs k nowhere e h) in (
      (λ id. omega (
        arith,
        c.loop-name.invariant.0 id,
        length-path (id + length (texts (take k xs))) n,
        ap length (ap (paths_bytes id) (texts_more xs k nowhere h) ∙ paths_push id (texts (take k xs)) n),
        length-append (paths_bytes id (texts (take k xs))) (record_bytes (id + length (texts (take k xs))) (path n)),
      )),
      omega (arith, q.short, c.loop-name.invariant.1),
    )

pub returns-clause-value : goal.returns-clause-value
returns-clause-value c =
    let a = c.args.self.now in
    let e = entry_of a.entry in
    let xs = c.as_slice-name-items.result.now in
    let all : take c.loop-name.name-index xs ≡ items a.names = take_all c.loop-name.name-index xs c.loop-name-test.false ∙ c.as_slice-name-items.ensures.items in
    omega (
      arith,
      c.loop-name.invariant.0 a.first,
      ap (λ (ys : List (Bor (List ℕ))). length (paths_bytes a.first (texts ys))) all,
      length-append (paths_bytes a.first (texts (items a.names))) (record_bytes 0 (deps a.output e.mtime e.inputs)),
      length-deps a.output e.mtime e.inputs,
    )
