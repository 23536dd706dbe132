-- What a failure leaves of the notes. Assumes nothing.
use Rattle.std.proofs.Common.{◌≡◌, ℕ, true, List, [], ◌++◌, take, None, sym, refl, ap, ◌∙◌, subst, zero-le}
use Rattle.std.proofs.lemmas.List.{append-nil, take_all}
use Rattle.medium.specs.State.{Bytes, State, all, settled}
use Rattle.medium.specs.Failure.{Fell}
use Rattle.image.specs.Kept.{Kept}
use Rattle.image.specs.Scans.{has_header, image_of, known, over_limit}
use Rattle.notes.specs.Notes.{Note, notes_bytes}
use Rattle.notes.specs.Wholeness.{Whole, AllFit, Agree}
use Rattle.notes.specs.Laws.{cut_at}
use Rattle.notes.proofs.Wholes.{image_is}
use Rattle.notes.proofs.Cut.{cut_anywhere}
use Rattle.depslog.specs.State.{closed_on, live_of}
use Rattle.standing.specs.Standing.{ClosedWith, Shortened}

-- a closed log whose live bytes are settled
pub closed_on_lem : (notes : List Note) (live : List ℕ) (n : State) → n.live ≡ settled live → has_header (image_of live) ≡ true → over_limit live ≡ None → Kept (known live) → Agree notes (known live) →
    ClosedWith notes (closed_on n)
closed_on_lem notes live n e h o k a =
    let l : live ≡ live_of n = sym (ap all e ∙ append-nil live) in
    record {
      closed = refl;
      quiet = ap (λ (b : Bytes). b.pending) e;
      headed = subst (λ (xs : List ℕ). has_header (image_of xs) ≡ true) l h;
      within = subst (λ (xs : List ℕ). over_limit xs ≡ None) l o;
      kept = subst (λ (xs : List ℕ). Kept (known xs)) l k;
      agree = subst (λ (xs : List ℕ). Agree notes (known xs)) l a;
    }

pub closed-whole : (notes : List Note) (live : List ℕ) (n : State) → n.live ≡ settled live → Whole live → Agree notes (known live) → ClosedWith notes (closed_on n)
closed-whole notes live n e w a = closed_on_lem notes live n e (ap has_header (image_is live w.headed) ∙ w.headed) w.within w.kept a

-- a failure that meets a whole image with notes behind it
pub fell-noted : (firm ns : List Note) (b : Bytes) (m n : State) → Whole b.durable → Agree firm (known b.durable) → AllFit (known b.durable) ns →
    b.pending ≡ notes_bytes (known b.durable) ns → Fell b m n → Shortened firm ns (closed_on n)
fell-noted firm ns b m n w a fit e f =
    let d : List ℕ = b.durable in
    let live : List ℕ = cut_at f.kept d ns in
    let c = cut_anywhere d ns f.kept w fit in
    let k : Kept (known live) = subst Kept c.mended.table c.mended.whole.kept in
    record {
      count = c.count;
      part = c.part;
      stands = closed_on_lem (firm ++ take c.count ns) live n (f.live ∙ ap (λ (xs : List ℕ). settled (d ++ take f.kept xs)) e)
          (ap has_header (image_is live c.headed) ∙ c.headed) c.within k (c.agree firm a);
    }

-- a failure that meets settled bytes leaves them
pub fell-settled : (live : List ℕ) (b : Bytes) (m n : State) → b.pending ≡ [] → b.durable ≡ live → Fell b m n → n.live ≡ settled live
fell-settled live b m n q d f =
    f.live ∙ ap (λ (xs : List ℕ). settled (b.durable ++ take f.kept xs)) q ∙ ap (λ (xs : List ℕ). settled (b.durable ++ xs)) (take_all f.kept [] zero-le) ∙
    ap settled (append-nil b.durable ∙ d)
