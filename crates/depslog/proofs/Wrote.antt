-- Whether there is room for a note. Assumes nothing.
use Rattle.std.proofs.Common.{◌≡◌, ℕ, ◌+◌, ◌≤◌, Bool, true, false, ◌&&◌, ltb, leb, List, length, ap, ◌∙◌, arith}
use Rattle.std.proofs.lemmas.Bool.{leb-true, leb-false, lt-ltb, le-ltb}
use Rattle.medium.specs.State.{State}
use Rattle.depslog.specs.State.{live_of}
use Rattle.depslog.specs.NoteCall.{no_room}

pub room-none : (s : State) (bs : List ℕ) (used n : ℕ) → s.power ≡ true → used ≡ length (live_of s) → length bs ≡ n → leb (used + n) s.capacity ≡ false → no_room s bs ≡ true
room-none s bs used n on u l e =
    ap (λ (b : Bool). b && ltb s.capacity (length (live_of s) + length bs)) on ∙ lt-ltb s.capacity (length (live_of s) + length bs) (omega (arith, u, l, leb-false (used + n) s.capacity e))

pub room-some : (s : State) (bs : List ℕ) (used n : ℕ) → used ≡ length (live_of s) → length bs ≡ n → leb (used + n) s.capacity ≡ true → length (live_of s) + length bs ≤ s.capacity
room-some s bs used n u l e = omega (arith, u, l, leb-true (used + n) s.capacity e)

pub room_there : (s : State) (bs : List ℕ) → s.power ≡ true → length (live_of s) + length bs ≤ s.capacity → no_room s bs ≡ false
room_there s bs on h = ap (λ (b : Bool). b && ltb s.capacity (length (live_of s) + length bs)) on ∙ le-ltb s.capacity (length (live_of s) + length bs) h
