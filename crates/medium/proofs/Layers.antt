-- How what the medium below answers becomes what the write buffer over it may answer. Assumes nothing.
use Rattle.std.proofs.Common.{if◌then◌else◌, is_err, ◌≡◌, ℕ, ◌+◌, ◌<◌, ◌≤◌, min, Bool, true, false, cond, ◌⊎◌, List, [], ◌++◌, length, take, Ok, Err, Result, sym, refl, ap, ◌∙◌, subst, inl, inr, ⊎_elim, true≢false, append_assoc, append-nil, arith, length-append, length-take, rules}
use Rattle.std.proofs.lemmas.List.{places, same_lists, take_all}
use Rattle.medium.specs.declared.Fault.{Fault}
use Rattle.medium.specs.declared.Fault.TheVariants.{Off, Full}
use Rattle.medium.specs.State.{Bytes, all, settled, more, State, with_live, with_appended, with_begun, with_drafted, with_draft_synced}
use Rattle.medium.specs.Failure.{Fell}
use Rattle.medium.specs.Calls.{Idle, Broken, Step, Room, Appended, Begun, Drafted, DraftSynced, Promoted, Failed}
use Rattle.medium.specs.Holding.{buffered, spare, kept, Sizing, Skipped, Handed, Passed, Call, Followed, Stopped, PassedThen, HeldBack, refused_off, refused_full, only_held, passed_on}

pub length_more : (b : Bytes) (hs : List ℕ) → length (all (more b hs)) ≡ length (all b) + length hs
length_more b hs = simp length-append (omega arith)

-- with nothing held, the write buffer is the medium below
pub buffered-none : (s : State) → buffered s [] ≡ s
buffered-none s = λ i. record { power = s.power; capacity = s.capacity; live = record { durable = s.live.durable; pending = append-nil s.live.pending i }; draft = s.draft }

-- the write buffer over a medium at state s, whose list is xs
abbrev pub over : State → List ℕ → State
over s xs = buffered s (kept s xs)

pub kept-dark : (s : State) (xs : List ℕ) → s.power ≡ false → kept s xs ≡ []
kept-dark s xs e = ap (λ p. cond p (take (spare s) xs) []) e

pub dark : (s : State) (xs : List ℕ) → s.power ≡ false → over s xs ≡ s
dark s xs e = ap (buffered s) (kept-dark s xs e) ∙ buffered-none s

none_kept : (p : Bool) (k : ℕ) (xs : List ℕ) → xs ≡ [] → cond p (take k xs) [] ≡ []
none_kept true k xs e = take_all k xs (rw e (omega arith)) ∙ e
none_kept false k xs e = refl

pub kept-none : (s : State) → kept s [] ≡ []
kept-none s = none_kept s.power (spare s) [] refl

pub bare : (s : State) → over s [] ≡ s
bare s = ap (buffered s) (kept-none s) ∙ buffered-none s

-- a first part of ps is one of ps ++ hs
first_part : (k : ℕ) (ps hs : List ℕ) → take k ps ≡ take (min k (length ps)) (ps ++ hs)
first_part k ps hs = same_lists _ _ (search (rules, places)) (λ j e b. grind (arith, places))

-- what a failure may leave of b, it may leave of b with more bytes pending
pub fell-more : (b : Bytes) (hs : List ℕ) (s u t : State) → u.capacity ≡ s.capacity → Fell b s t → Fell (more b hs) u t
fell-more b hs s u t e f =
    record {
      off = f.off;
      same = f.same ∙ sym e;
      kept = min f.kept (length b.pending);
      live = f.live ∙ ap (λ l. settled (b.durable ++ l)) (first_part f.kept b.pending hs);
      draft_quiet = f.draft_quiet;
      draft_fits = omega (arith, f.draft_fits, e);
    }

pub fell-same : (b : Bytes) (s u t : State) → u.capacity ≡ s.capacity → Fell b s t → Fell b u t
fell-same b s u t e f = record { off = f.off; same = f.same ∙ sym e; kept = f.kept; live = f.live; draft_quiet = f.draft_quiet; draft_fits = omega (arith, f.draft_fits, e) }

pub length-kept : (s : State) (xs : List ℕ) (l h : ℕ) → Sizing s xs l h → length (kept s xs) ≡ h
length-kept s xs l h z = ap length z.held ∙ simp length-take (omega (arith, z.within))

lit-on : (p : Bool) (ys : List ℕ) → 0 < length (cond p ys []) → p ≡ true
lit-on true ys h = refl
lit-on false ys h = absurd (omega arith)

lit-few : (p : Bool) (ys : List ℕ) → length (cond p ys []) ≤ length ys
lit-few true ys = omega arith
lit-few false ys = omega arith

-- where bytes are held, the power below is on and there is room for them
pub record Fit (s : State) (hs : List ℕ) : Type 0 where
  pub on : s.power ≡ true
  pub room : Room s.live (length hs) s

pub kept-fit : (s : State) (xs : List ℕ) → 0 < length (kept s xs) → Fit s (kept s xs)
kept-fit s xs h =
    let ys = take (spare s) xs in
    record { on = lit-on s.power ys h; room = omega (arith, h, lit-few s.power ys, length-take (spare s) xs) }

module _ (s t : State) (xs : List ℕ) where
  off : {room : Type 0} → Idle s t ⊎ Broken room (Fell s.live s) s t → Idle (over s xs) (over t xs) ⊎ Broken room (Fell (over s xs).live (over s xs)) (over s xs) (over t xs)
  off {room} h =
      ⊎_elim
      (λ (i : Idle s t). inl (record { off = i.off; after = ap (λ (u : State). over u xs) i.after }))
      (λ (f : Broken room (Fell s.live s) s t). inr (record { on = f.on; fits = f.fits; fell = rw (dark t xs f.fell.off) (fell-more s.live (kept s xs) s (over s xs) t refl f.fell) }))
      h

  -- a call that leaves the live bytes alone passes through
  pub through : {A : Type 0} (room full : Type 0) (goal : State) (r : Result A Fault) → Step room full goal (Fell s.live s) s r t → Step room full (over goal xs) (Fell (over s xs).live (over s xs)) (over s xs) r (over t xs)
  through room full goal (Ok x) h = record { on = h.on; fits = h.fits; after = ap (λ (u : State). over u xs) h.after }
  through room full goal (Err Off) h = off h
  through room full goal (Err Full) h = record { on = h.on; over = h.over; after = ap (λ (u : State). over u xs) h.after }

  pub begun : {A : Type 0} (r : Result A Fault) → Begun s r t → Begun (over s xs) r (over t xs)
  begun r h = through (Unit {0}) ⊥ (with_begun s) r h

  pub drafted : {A : Type 0} (bs : List ℕ) (r : Result A Fault) → Drafted bs s r t → Drafted bs (over s xs) r (over t xs)
  drafted bs r h = through _ _ (with_drafted bs s) r h

  pub draft_synced : {A : Type 0} (r : Result A Fault) → DraftSynced s r t → DraftSynced (over s xs) r (over t xs)
  draft_synced r h = through (Unit {0}) ⊥ (with_draft_synced s) r h

  pub failed : Failed s t → Failed (over s xs) (over t xs)
  failed h = rw (dark t xs h.off) (fell-more s.live (kept s xs) s (over s xs) t refl h)

  pub promoted : {A : Type 0} (r : Result A Fault) → Promoted s r t → Promoted (over s xs) r (over t [])
  promoted (Ok x) h = record { on = h.on; fits = tt; after = bare t ∙ h.after }
  promoted (Err Off) h =
      rw (bare t)
      (⊎_elim
      (λ (i : Idle s t). inl (record { off = i.off; after = i.after ∙ sym (dark s xs i.off) }))
      (λ (f : Broken (Unit {0}) (λ u. Fell s.live s u ⊎ Fell s.draft s u) s t).
      inr (record {
        on = f.on;
        fits = tt;
        fell = ⊎_elim (λ (o : Fell s.live s t). inl (fell-more s.live (kept s xs) s (over s xs) t refl o)) (λ (d : Fell s.draft s t). inr (fell-same s.draft s (over s xs) t refl d)) f.fell;
      }))
      h)
  promoted (Err Full) h = absurd h.over

-- A call that follows what is held is that call of the write buffer, where broke says what the call answers when the bytes
-- held meet a failure.
module _ (call : Call) (s t : State) (hs : List ℕ) (fit : 0 < length hs → Fit s hs) (broke : 0 < length hs → Fell (more s.live hs) s t → call (buffered s hs) (Err Off) t) where
  stopped : (e : Fault) → Handed hs s (Err e) t → call (buffered s hs) (Err e) t
  stopped Off h =
      ⊎_elim
      (λ (i : Idle s t). absurd (true≢false (sym (fit h.some).on ∙ i.off)))
      (λ (b : Broken (Room s.live (length hs) s) (Fell (more s.live hs) s) s t). broke h.some b.fell)
      h.passed
  stopped Full h = absurd (omega (arith, h.passed.over, (fit h.some).room))

  followed : (u : State) → Passed hs s (Ok tt) u → u ≡ buffered s hs
  followed u p =
      ⊎_elim (λ (k : Skipped hs s u). k.after ∙ sym (buffered-none s) ∙ ap (buffered s) (sym k.empty)) (λ (h : Handed hs s (Ok tt) u). h.passed.after) p

  pub passed_then : (r : Result (Unit {0}) Fault) → PassedThen hs call s r t → call (buffered s hs) r t
  passed_then r p =
      ⊎_elim
      (λ (f : Followed hs call s r t). subst (λ (u : State). call u r t) (followed f.between f.passed) f.made)
      (λ (d : Stopped hs s r t). subst (λ (q : Result (Unit {0}) Fault). call (buffered s hs) q t) (sym d.answer) (stopped d.fault d.passed))
      p

pub held-is : (s : State) (hs bs : List ℕ) → buffered s (hs ++ bs) ≡ with_appended bs (buffered s hs)
held-is s hs bs = ap (λ l. with_live (record { durable = s.live.durable; pending = l }) s) (sym (append_assoc s.live.pending hs bs))

-- what a write buffer does at an append is an append of its own state
pub held_back : (bs : List ℕ) (s : State) (hs : List ℕ) (r : Result (Unit {0}) Fault) (t : State) (hs' : List ℕ) → (0 < length hs → Fit s hs) → HeldBack bs s hs r t hs' → Appended bs (buffered s hs) r (buffered t hs')
held_back bs s hs r t hs' fit (refused_off dim is same left) =
    rw is (inl (record { off = dim; after = λ i. buffered (same i) (left i) }))
held_back bs s hs r t hs' fit (refused_full on more-than is same left) =
    rw is (record { on = on; over = omega (arith, more-than, length_more s.live hs); after = λ i. buffered (same i) (left i) })
held_back bs s hs r t hs' fit (only_held on room few is same left) =
    rw is (record { on = on; fits = omega (arith, room, length_more s.live hs); after = (λ i. buffered (same i) (left i)) ∙ held-is s hs bs })
held_back bs s hs r t hs' fit (passed_on on room many passed left) =
    let u = buffered s hs in
    let goes : Room u.live (length bs) u = omega (arith, room, length_more s.live hs) in
    rw (left, buffered-none t)
    (passed_then (Appended bs) s t hs fit (λ h f. inr (record { on = on; fits = goes; fell = fell-more (more s.live hs) bs s u t refl f })) r passed)

-- what an extension that is refused, or granted, says of its test
pub refused-test : {A E : Type 0} (x : A) (e : E) (p : Bool) (r : Result A E) → r ≡ (if p then Ok x else Err e) → is_err r ≡ true → p ≡ false
refused-test x e true r is h = absurd (true≢false (sym h ∙ ap is_err is))
refused-test x e false r is h = refl

pub granted-test : {A E : Type 0} (x : A) (e : E) (p : Bool) (r : Result A E) → r ≡ (if p then Ok x else Err e) → is_err r ≡ false → p ≡ true
granted-test x e true r is h = refl
granted-test x e false r is h = absurd (true≢false (sym (ap is_err is) ∙ h))

-- of a list xs, the first h are held, and ys is that part of the list
module _ (bs : List ℕ) (s : State) (xs ys : List ℕ) (l h : ℕ) (z : Sizing s xs l h) (is : ys ≡ take h xs) where
  held_size : length ys ≡ h
  held_size = ap length is ∙ length-take h xs ∙ omega (arith, z.within)

  all-held : kept s xs ≡ ys
  all-held = z.held ∙ sym is

  kept_fits : (zs : List ℕ) → length zs ≤ spare s → kept s zs ≡ zs
  kept_fits zs le = ap (λ p. cond p (take (spare s) zs) []) z.on ∙ take_all (spare s) zs le

  -- bytes that are only held
  pub holds : l + h + length bs ≤ s.capacity → length ys + length bs ≤ 512 → HeldBack bs s (kept s xs) (Ok tt) s (kept s (ys ++ bs))
  holds room few =
      rw (all-held, kept_fits (ys ++ bs) (omega (arith, length-append ys bs, held_size, z.below, room)))
      (only_held z.on (omega (arith, held_size, z.below)) few refl refl refl)

  -- bytes that are too many to be held
  pub passes : (r : Result (Unit {0}) Fault) (t : State) → l + h + length bs ≤ s.capacity → 512 < length ys + length bs → PassedThen (kept s ys) (Appended bs) s r t → HeldBack bs s (kept s xs) r t (kept t [])
  passes r t room many p =
      rw (all-held, kept-none t)
      (passed_on z.on (omega (arith, held_size, z.below)) many (subst (λ hs. PassedThen hs (Appended bs) s r t) (kept_fits ys (omega (arith, held_size, z.room, z.below))) p) refl)
