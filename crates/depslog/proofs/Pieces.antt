-- Putting the records of a note piece by piece. Assumes nothing.
use Rattle.std.proofs.Common.{◌≡◌, ℕ, ◌+◌, ◌<◌, ◌≤◌, true, List, ◌++◌, length, get_or, take, drop, Ok, Err, Result, sym, ap, ◌∙◌, subst, arith, Bor}
use Rattle.std.proofs.lemmas.List.{length-append, length-take-le, map-append, take-append-drop}
use Rattle.medium.specs.declared.Fault.{Fault}
use Rattle.medium.specs.State.{State}
use Rattle.image.specs.Bytes.{path, record_bytes}
use Rattle.depslog.specs.Drafting.{paths_bytes}
use Rattle.depslog.specs.Putting.{Puts, InPieces}
use Rattle.depslog.specs.Texts.{texts}
use Rattle.depslog.proofs.Appends.{nowhere, paths_push, texts_more, texts_long}
use Rattle.depslog.proofs.Paths.{paths-both}

-- Path records by references -------------------------------------------------------------------------------------------------

module _ (id : ℕ) (xs : List (Bor (List ℕ))) (k : ℕ) (h : k < length xs) where
  -- the records before the k-th, the k-th, and those behind it
  abbrev pub before : List ℕ
  before = paths_bytes id (texts (take k xs))

  abbrev pub here : List ℕ
  here = record_bytes (id + k) (path (get_or xs k nowhere).now)

  abbrev pub behind : List ℕ
  behind = paths_bytes (id + length (texts (take (k + 1) xs))) (texts (drop (k + 1) xs))

  pub more_by_one : paths_bytes id (texts (take (k + 1) xs)) ≡ before ++ here
  more_by_one =
      let l : length (texts (take k xs)) ≡ k = texts_long (take k xs) ∙ length-take-le k xs (omega (arith, h)) in
      ap (paths_bytes id) (texts_more xs k nowhere h) ∙ paths_push id (texts (take k xs)) (get_or xs k nowhere).now ∙
      ap (λ (j : ℕ). before ++ record_bytes (id + j) (path (get_or xs k nowhere).now)) l

  pub in_three : paths_bytes id (texts xs) ≡ (before ++ here) ++ behind
  in_three =
      ap (λ (ys : List (Bor (List ℕ))). paths_bytes id (texts ys)) (sym (take-append-drop (k + 1) xs)) ∙
      ap (paths_bytes id) (map-append (λ (y : Bor (List ℕ)). y.now) (take (k + 1) xs) (drop (k + 1) xs)) ∙
      paths-both id (texts (take (k + 1) xs)) (texts (drop (k + 1) xs)) ∙ ap (λ (bs : List ℕ). bs ++ behind) more_by_one

-- One after the other --------------------------------------------------------------------------------------------------------

module _ (held : State → List ℕ) (puts : Puts) (law : InPieces held puts) (s : State) (on : s.power ≡ true) where
  -- room for all of some bytes is room for a piece, where those before it are put
  pub room_next : (xs ys zs all : List ℕ) (t : State) → puts xs s (Ok tt) t → all ≡ (xs ++ ys) ++ zs → length (held s) + length all ≤ s.capacity → length (held t) + length ys ≤ t.capacity
  room_next xs ys zs all t a e h = omega (arith, h, law.grown xs s t a, law.wide xs s t a, ap length e, length-append (xs ++ ys) zs, length-append xs ys)

  pub room_last : (xs ys : List ℕ) (t : State) → puts xs s (Ok tt) t → length (held s) + length (xs ++ ys) ≤ s.capacity → length (held t) + length ys ≤ t.capacity
  room_last xs ys t a h = omega (arith, h, law.grown xs s t a, law.wide xs s t a, length-append xs ys)

  pub put_next : (xs ys : List ℕ) (t u : State) (r : Result (Unit {0}) Fault) → puts xs s (Ok tt) t → puts ys t r u → puts (xs ++ ys) s r u
  put_next xs ys t u r a b = law.behind xs ys s t u r on a b

  -- a piece breaks, with more to come
  pub put_broke : (xs ys zs ws all : List ℕ) (t u : State) (f : Fault) → puts xs s (Ok tt) t → puts ys t (Err f) u → all ≡ (xs ++ ys) ++ zs → puts (all ++ ws) s (Err f) u
  put_broke xs ys zs ws all t u f a b e =
      law.broke all ws s u f (subst (λ (bs : List ℕ). puts bs s (Err f) u) (sym e) (law.broke (xs ++ ys) zs s u f (put_next xs ys t u (Err f) a b)))
