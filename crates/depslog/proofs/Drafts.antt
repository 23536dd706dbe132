-- What was written into a buffer, and drafting in pieces. Assumes nothing.
use Rattle.std.proofs.Common.{◌≡◌, ℕ, ◌+◌, ◌-◌, ◌≤◌, Bool, true, false, cond, leb, List, [], ◌++◌, length, take, drop, Ok, Err, Result, sym, refl, ap, ◌∙◌, inl, inr, arith}
use Rattle.std.proofs.lemmas.List.{append_assoc, append-nil, length-append, take_at}
use Rattle.std.proofs.lemmas.Bool.{le-leb, cond-true, true≢false}
use Rattle.medium.specs.declared.Fault.{Fault}
use Rattle.medium.specs.declared.Fault.TheVariants.{Off, Full}
use Rattle.medium.specs.State.{Bytes, State, all, cut, more, with_drafted}
use Rattle.image.specs.declared.writer.TooShort.{TooShort}
use Rattle.image.specs.Written.{written}
use Rattle.depslog.specs.Drafting.{DraftedAll}

-- What was written ----------------------------------------------------------------------------------------------------------

abbrev Wrote : Type 0
Wrote = Result ℕ TooShort × List ℕ

by_room : (b : Bool) (bytes old buf : List ℕ) (n : ℕ) → ◌≡◌ {A = Wrote} (Ok n, buf) (cond b (Ok (length bytes), bytes ++ drop (length bytes) old) (Err (record { need = length bytes }), old)) →
    take (n - 0) buf ≡ bytes
by_room true bytes old buf n e =
    let p = ap (λ (w : Wrote). w.0) e in
    let k : n ≡ length bytes = cc in
    ap (λ (j : ℕ). take j buf) (omega (arith, k)) ∙ ap (take (length bytes)) (ap (λ (w : Wrote). w.1) e) ∙ take_at bytes (drop (length bytes) old) (length bytes) refl
by_room false bytes old buf n e = let p = ap (λ (w : Wrote). w.0) e in let z : ◌≡◌ {A = ℕ} 0 1 = cc in absurd (omega arith)

-- the front of the buffer holds the record
pub wrote_it : (bytes old buf : List ℕ) (n : ℕ) → (Ok n, buf) ≡ written bytes old → take (n - 0) buf ≡ bytes
wrote_it bytes old buf n e = by_room (leb (length bytes) (length old)) bytes old buf n e

pub wrote_not : (bytes old buf : List ℕ) (t : TooShort) → length bytes ≤ length old → (Err t, buf) ≡ written bytes old → ⊥
wrote_not bytes old buf t h e =
    let w : Wrote = (Ok (length bytes), bytes ++ drop (length bytes) old) in
    let f : written bytes old ≡ w = cond-true (leb (length bytes) (length old)) w (Err (record { need = length bytes }), old) (le-leb (length bytes) (length old) h) in
    let p = ap (λ (x : Wrote). x.0) (e ∙ f) in
    let z : ◌≡◌ {A = ℕ} 0 1 = cc in omega arith

abbrev RoomFor : List ℕ → State → Type 0
RoomFor bs s = length (all s.draft) + length bs ≤ s.capacity

-- Piece by piece -------------------------------------------------------------------------------------------------------------

-- at s, the bytes bs are left to be drafted of what was to be drafted at z
abbrev pub ToDraft : List ℕ → State → List ℕ → State → Type 0
ToDraft bs s cs z = with_drafted bs s ≡ with_drafted cs z

pub more-more : (b : Bytes) (xs ys : List ℕ) → more (more b xs) ys ≡ more b (xs ++ ys)
more-more b xs ys = ap (λ (zs : List ℕ). record { durable = b.durable; pending = zs }) (append_assoc b.pending xs ys)

-- a piece was drafted
pub piece_drafted : (xs ys bs cs : List ℕ) (s t z : State) → bs ≡ xs ++ ys → ToDraft bs s cs z → t ≡ with_drafted xs s → ToDraft ys t cs z
piece_drafted xs ys bs cs s t z e l a =
    ap (with_drafted ys) a ∙ ap (λ (b : Bytes). record { power = s.power; capacity = s.capacity; live = s.live; draft = b }) (more-more s.draft xs ys) ∙
    ap (λ (zs : List ℕ). with_drafted zs s) (sym e) ∙ l

length_drafted : (bs : List ℕ) (s : State) → length (all (with_drafted bs s).draft) ≡ length (all s.draft) + length bs
length_drafted bs s =
    omega (arith, length-append s.draft.durable (s.draft.pending ++ bs), length-append s.draft.pending bs, length-append s.draft.durable s.draft.pending)

module _ (bs : List ℕ) (s : State) (cs : List ℕ) (z : State) (l : ToDraft bs s cs z) where
  pub left-on : z.power ≡ true → s.power ≡ true
  left-on on = ap (λ (u : State). u.power) l ∙ on

  same-capacity : s.capacity ≡ z.capacity
  same-capacity = ap (λ (u : State). u.capacity) l

  pub left-room : RoomFor cs z → RoomFor bs s
  left-room h = omega (arith, h, same-capacity, length_drafted bs s, length_drafted cs z, ap (λ (u : State). length (all u.draft)) l)

  -- the power failed in a piece
  pub left_broke : (xs : List ℕ) (f : Fault) (u : State) → z.power ≡ true → DraftedAll {A = Unit {0}} xs s (Err f) u → DraftedAll {A = Unit {0}} cs z (Err f) u
  left_broke xs Full u on a = absurd a.over
  left_broke xs Off u on a =
      elim a [
        | inl i ↦ absurd (true≢false (sym (left-on on) ∙ i.off))
        | inr b ↦ inr (record {
          on = on;
          fits = tt;
          fell = record {
            off = b.fell.off;
            same = b.fell.same ∙ same-capacity;
            kept = b.fell.kept;
            live = b.fell.live ∙ ap (λ (v : State). cut b.fell.kept v.live) l;
            draft_quiet = b.fell.draft_quiet;
            draft_fits = omega (arith, b.fell.draft_fits, same-capacity);
          };
        })
      ]

-- room for a first piece
pub room-first : (xs ys bs : List ℕ) (s : State) → bs ≡ xs ++ ys → RoomFor bs s → RoomFor xs s
room-first xs ys bs s e h = omega (arith, h, ap length e, length-append xs ys)

-- where nothing is left, all is drafted
pub all_drafted : (s : State) (cs : List ℕ) (z : State) → ToDraft [] s cs z → s ≡ with_drafted cs z
all_drafted s cs z l =
    ap (λ (xs : List ℕ). record { power = s.power; capacity = s.capacity; live = s.live; draft = record { durable = s.draft.durable; pending = xs } }) (sym (append-nil s.draft.pending)) ∙ l
