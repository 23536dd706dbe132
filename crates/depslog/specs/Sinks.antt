-- That records behind the live bytes, and in the draft, are put piece by piece. Assumes nothing.
use Rattle.std.specs.Prelude.{◌≡◌, ℕ, ◌+◌, min, true, List, [], ◌++◌, length, take, Ok, Err, Result, refl}
use Rattle.std.proofs.Common.{sym, ap, ◌∙◌, subst, inl, inr, arith}
use Rattle.std.proofs.lemmas.List.{append_assoc, append-nil, length-append, take_at, take_all, take-append-le}
use Rattle.std.proofs.lemmas.Bool.{cases_lt, true≢false}
use Rattle.medium.specs.declared.Fault.{Fault}
use Rattle.medium.specs.declared.Fault.TheVariants.{Off, Full}
use Rattle.medium.specs.State.{Bytes, State, all, settled, more, with_appended, with_drafted}
use Rattle.medium.specs.Failure.{Fell}
use Rattle.depslog.specs.State.{live_of}
use Rattle.depslog.specs.Appending.{AppendedAll}
use Rattle.depslog.specs.Drafting.{DraftedAll}
use Rattle.depslog.specs.Putting.{InPieces}

more-more : (b : Bytes) (xs ys : List ℕ) → more (more b xs) ys ≡ more b (xs ++ ys)
more-more b xs ys = ap (λ (zs : List ℕ). record { durable = b.durable; pending = zs }) (append_assoc b.pending xs ys)

more-none : (b : Bytes) → b ≡ more b []
more-none b = ap (λ (zs : List ℕ). record { durable = b.durable; pending = zs }) (sym (append-nil b.pending))

length_more : (b : Bytes) (xs : List ℕ) → length (all (more b xs)) ≡ length (all b) + length xs
length_more b xs = omega (arith, length-append b.durable (b.pending ++ xs), length-append b.pending xs, length-append b.durable b.pending)

-- Behind the live bytes ------------------------------------------------------------------------------------------------------

-- so many of some bytes are as many of more
take-fewer : (k : ℕ) (xs ys : List ℕ) → take k xs ≡ take (min k (length xs)) (xs ++ ys)
take-fewer k xs ys =
    elim (cases_lt k (length xs)) [
      | inl h ↦ sym (ap (λ (j : ℕ). take j (xs ++ ys)) (omega arith) ∙ take-append-le k xs ys (omega arith))
      | inr h ↦ take_all k xs h ∙ sym (ap (λ (j : ℕ). take j (xs ++ ys)) (omega arith) ∙ take_at xs ys (length xs) refl)
    ]

-- what a failure leaves of some bytes it may leave of more
fell_wider : (b : Bytes) (xs ys : List ℕ) (s t : State) → Fell (more b xs) s t → Fell (more b (xs ++ ys)) s t
fell_wider b xs ys s t f = record {
  off = f.off;
  same = f.same;
  kept = min f.kept (length (b.pending ++ xs));
  live = f.live ∙ ap (λ (zs : List ℕ). settled (b.durable ++ zs)) (take-fewer f.kept (b.pending ++ xs) ys ∙ ap (take (min f.kept (length (b.pending ++ xs)))) (append_assoc b.pending xs ys));
  draft_quiet = f.draft_quiet;
  draft_fits = f.draft_fits;
}

abbrev Lives : List ℕ → State → Result (Unit {0}) Fault → State → Type 0
Lives bs s r t = AppendedAll bs s r t

live_behind : (xs ys : List ℕ) (s t u : State) (r : Result (Unit {0}) Fault) → s.power ≡ true → Lives xs s (Ok tt) t → Lives ys t r u → Lives (xs ++ ys) s r u
live_behind xs ys s t u (Ok x) on a b = record {
  on = on;
  fits = tt;
  after = b.after ∙ ap (with_appended ys) a.after ∙ ap (λ (l : Bytes). record { power = s.power; capacity = s.capacity; live = l; draft = s.draft }) (more-more s.live xs ys);
}
live_behind xs ys s t u (Err Full) on a b = absurd b.over
live_behind xs ys s t u (Err Off) on a b =
    elim (subst (λ (v : State). Lives ys v (Err Off) u) a.after b) [
      | inl i ↦ absurd (true≢false (sym on ∙ i.off))
      | inr w ↦ inr (record {
        on = on;
        fits = tt;
        fell = subst (λ (l : Bytes). Fell l s u) (more-more s.live xs ys)
            (record { off = w.fell.off; same = w.fell.same; kept = w.fell.kept; live = w.fell.live; draft_quiet = w.fell.draft_quiet; draft_fits = w.fell.draft_fits });
      })
    ]

live_broke : (xs ys : List ℕ) (s u : State) (f : Fault) → Lives xs s (Err f) u → Lives (xs ++ ys) s (Err f) u
live_broke xs ys s u Full a = absurd a.over
live_broke xs ys s u Off a = elim a [ inl i ↦ inl i | inr b ↦ inr (record { on = b.on; fits = tt; fell = fell_wider s.live xs ys s u b.fell }) ]

pub live_in_pieces : InPieces live_of Lives
live_in_pieces = record {
  none = λ s on. record { on = on; fits = tt; after = ap (λ (l : Bytes). record { power = s.power; capacity = s.capacity; live = l; draft = s.draft }) (more-none s.live) };
  behind = live_behind;
  broke = live_broke;
  on = λ xs s t a. ap (λ (u : State). u.power) a.after ∙ a.on;
  grown = λ xs s t a. ap (λ (u : State). length (live_of u)) a.after ∙ length_more s.live xs;
  wide = λ xs s t a. ap (λ (u : State). u.capacity) a.after;
}

-- In the draft ---------------------------------------------------------------------------------------------------------------

abbrev Drafts : List ℕ → State → Result (Unit {0}) Fault → State → Type 0
Drafts bs s r t = DraftedAll bs s r t

draft_behind : (xs ys : List ℕ) (s t u : State) (r : Result (Unit {0}) Fault) → s.power ≡ true → Drafts xs s (Ok tt) t → Drafts ys t r u → Drafts (xs ++ ys) s r u
draft_behind xs ys s t u (Ok x) on a b = record {
  on = on;
  fits = tt;
  after = b.after ∙ ap (with_drafted ys) a.after ∙ ap (λ (d : Bytes). record { power = s.power; capacity = s.capacity; live = s.live; draft = d }) (more-more s.draft xs ys);
}
draft_behind xs ys s t u (Err Full) on a b = absurd b.over
draft_behind xs ys s t u (Err Off) on a b =
    elim (subst (λ (v : State). Drafts ys v (Err Off) u) a.after b) [
      | inl i ↦ absurd (true≢false (sym on ∙ i.off))
      | inr w ↦ inr (record {
        on = on;
        fits = tt;
        fell = record { off = w.fell.off; same = w.fell.same; kept = w.fell.kept; live = w.fell.live; draft_quiet = w.fell.draft_quiet; draft_fits = w.fell.draft_fits };
      })
    ]

draft_broke : (xs ys : List ℕ) (s u : State) (f : Fault) → Drafts xs s (Err f) u → Drafts (xs ++ ys) s (Err f) u
draft_broke xs ys s u Full a = absurd a.over
draft_broke xs ys s u Off a = elim a [ inl i ↦ inl i | inr b ↦ inr (record { on = b.on; fits = tt; fell = b.fell }) ]

pub draft_in_pieces : InPieces (λ s. all s.draft) Drafts
draft_in_pieces = record {
  none = λ s on. record { on = on; fits = tt; after = ap (λ (d : Bytes). record { power = s.power; capacity = s.capacity; live = s.live; draft = d }) (more-none s.draft) };
  behind = draft_behind;
  broke = draft_broke;
  on = λ xs s t a. ap (λ (u : State). u.power) a.after ∙ a.on;
  grown = λ xs s t a. ap (λ (u : State). length (all u.draft)) a.after ∙ length_more s.draft xs;
  wide = λ xs s t a. ap (λ (u : State). u.capacity) a.after;
}
