use Rattle.std.proofs.Common.{◌≡◌, ℕ, true, List, ◌++◌, take, Ok, sym, ap, ◌∙◌, subst, Bor}
use Rattle.std.proofs.lemmas.List.{append_assoc, take_all}
use Rattle.std.proofs.lemmas.Result.{err_from_is_err_and}
use Rattle.terms.specs.Few.{items}
use Rattle.terms.specs.Lists.{every}
use Rattle.terms.specs.Names.{is_name}
use Rattle.image.specs.Bytes.{deps, record_bytes}
use Rattle.image.specs.View.{entry_of}
use Rattle.depslog.specs.Adding.{bytes_added}
use Rattle.depslog.specs.Drafting.{paths_bytes}
use Rattle.depslog.specs.Texts.{texts}
use Rattle.depslog.proofs.Appends.{nowhere, named_at}
use Rattle.depslog.proofs.Pieces.{before, here, behind, more_by_one, in_three, room_next, room_last, put_next, put_broke}
use Rattle.depslog.proofs.added.Added.put.Goals as goal

pub loop-k-init : goal.loop-k-init
loop-k-init g c = g.S.Sink.pieces.none (g.M.Medium.state c.args.medium.now) c.requires.on

pub put_path-requires : goal.put_path-requires
put_path-requires g c =
    let s = g.M.Medium.state c.args.medium.now in
    let t = g.M.Medium.state c.loop-k.medium in
    let a = c.args.self.now in
    let e = entry_of a.entry in
    let ds = record_bytes 0 (deps a.output e.mtime e.inputs) in
    let xs = c.as_slice-name-items.result.now in
    let k = c.loop-k.k in
    let h = c.loop-k-test.true in
    let i = c.as_slice-name-items.ensures.items in
    let named : every is_name (texts xs) ≡ true = ap (λ (ys : List (Bor (List ℕ))). every is_name (texts ys)) i ∙ a.named in
    let all : bytes_added a ≡ (before a.first xs k h ++ here a.first xs k h) ++ (behind a.first xs k h ++ ds) =
    ap (λ (ys : List (Bor (List ℕ))). paths_bytes a.first (texts ys) ++ ds) (sym i) ∙ ap (λ (bs : List ℕ). bs ++ ds) (in_three a.first xs k h) ∙
    append_assoc (before a.first xs k h ++ here a.first xs k h) (behind a.first xs k h) ds in
    record {
      named = named_at xs k nowhere named h;
      room = room_next g.S.Sink.held g.S.Sink.puts g.S.Sink.pieces s c.requires.on (before a.first xs k h) (here a.first xs k h) (behind a.first xs k h ++ ds) (bytes_added a) t c.loop-k.invariant all
          c.requires.room;
    }

pub returns-in_err-put_path : goal.returns-in_err-put_path
returns-in_err-put_path g c =
    let s = g.M.Medium.state c.args.medium.now in
    let t = g.M.Medium.state c.loop-k.medium in
    let u = g.M.Medium.state c.put_path.new.medium in
    let a = c.args.self.now in
    let e = entry_of a.entry in
    let ds = record_bytes 0 (deps a.output e.mtime e.inputs) in
    let xs = c.as_slice-name-items.result.now in
    let k = c.loop-k.k in
    let h = c.loop-k-test.true in
    let all : paths_bytes a.first (texts (items a.names)) ≡ (before a.first xs k h ++ here a.first xs k h) ++ behind a.first xs k h =
    ap (λ (ys : List (Bor (List ℕ))). paths_bytes a.first (texts ys)) (sym c.as_slice-name-items.ensures.items) ∙ in_three a.first xs k h in
    let p = err_from_is_err_and c.from_residual.result c.from_residual.ensures.1 in
    rw (p.1, p.2)
    (put_broke g.S.Sink.held g.S.Sink.puts g.S.Sink.pieces s c.requires.on (before a.first xs k h) (here a.first xs k h) (behind a.first xs k h) ds _ t u _ c.loop-k.invariant c.in_err-put_path.ensures all)

pub loop-k-preserved : goal.loop-k-preserved
loop-k-preserved g c =
    let s = g.M.Medium.state c.args.medium.now in
    let t = g.M.Medium.state c.loop-k.medium in
    let u = g.M.Medium.state c.put_path.new.medium in
    let a = c.args.self.now in
    let xs = c.as_slice-name-items.result.now in
    let k = c.loop-k.k in
    let h = c.loop-k-test.true in
    subst (λ (bs : List ℕ). g.S.Sink.puts bs s (Ok tt) u) (sym (more_by_one a.first xs k h))
    (put_next g.S.Sink.held g.S.Sink.puts g.S.Sink.pieces s c.requires.on (before a.first xs k h) (here a.first xs k h) t u (Ok tt) c.loop-k.invariant c.in_ok-put_path.ensures)

pub put_deps-requires : goal.put_deps-requires
put_deps-requires g c =
    let s = g.M.Medium.state c.args.medium.now in
    let t = g.M.Medium.state c.loop-k.medium in
    let a = c.args.self.now in
    let e = entry_of a.entry in
    let ds = record_bytes 0 (deps a.output e.mtime e.inputs) in
    let xs = c.as_slice-name-items.result.now in
    let all : take c.loop-k.k xs ≡ items a.names = take_all c.loop-k.k xs c.loop-k-test.false ∙ c.as_slice-name-items.ensures.items in
    let put = subst (λ (ys : List (Bor (List ℕ))). g.S.Sink.puts (paths_bytes a.first (texts ys)) s (Ok tt) t) all c.loop-k.invariant in
    room_last g.S.Sink.held g.S.Sink.puts g.S.Sink.pieces s c.requires.on (paths_bytes a.first (texts (items a.names))) ds t put c.requires.room

pub returns : goal.returns
returns g c =
    let s = g.M.Medium.state c.args.medium.now in
    let t = g.M.Medium.state c.loop-k.medium in
    let u = g.M.Medium.state c.put_deps.new.medium in
    let a = c.args.self.now in
    let e = entry_of a.entry in
    let ds = record_bytes 0 (deps a.output e.mtime e.inputs) in
    let xs = c.as_slice-name-items.result.now in
    let all : take c.loop-k.k xs ≡ items a.names = take_all c.loop-k.k xs c.loop-k-test.false ∙ c.as_slice-name-items.ensures.items in
    let put = subst (λ (ys : List (Bor (List ℕ))). g.S.Sink.puts (paths_bytes a.first (texts ys)) s (Ok tt) t) all c.loop-k.invariant in
    put_next g.S.Sink.held g.S.Sink.puts g.S.Sink.pieces s c.requires.on (paths_bytes a.first (texts (items a.names))) ds t u c.put_deps.result put c.put_deps.ensures
