-- Adding places, one by one. Assumes nothing.
use Rattle.std.proofs.Common.{◌≡◌, ℕ, suc, ◌+◌, ◌-◌, ◌≤◌, if◌then◌else◌, ltb, List, [], ◌∷◌, ◌++◌, map, length, take, drop, sym, ap, ◌∙◌, subst, arith}
use Rattle.std.proofs.lemmas.List.{append_assoc, append-nil, length-append, length-map, length-drop, length-take, take-take, drop-take, take-append-le, drop-append-le, take_all, drop_all, map-append}
use Rattle.terms.specs.declared.Place.{Place}
use Rattle.terms.specs.Lists.{◌▷◌}
use Rattle.lists.proofs.Pushed.{pushed}
use Rattle.words.specs.Spelling.{unescaped, name_at}
use Rattle.manifest.specs.Stored.{Stored}

-- what stands within a first part stands in the whole
part-within : (xs : List ℕ) (e s l : ℕ) → s + l ≤ length (take e xs) → take l (drop s (take e xs)) ≡ take l (drop s xs)
part-within xs e s l h =
    let k : s + l ≤ e = omega (arith, length-take e xs) in
    let d : e ≡ s + (e - s) = omega arith in
    ap (λ (n : ℕ). take l (drop s (take n xs))) d ∙ ap (take l) (drop-take s (e - s) xs) ∙ take-take l (e - s) (drop s xs) (omega arith)

pub name-within : (xs : List ℕ) (e : ℕ) (p : Place) → p.start + p.length ≤ length (take e xs) → name_at (take e xs) p ≡ name_at xs p
name-within xs e p h = ap unescaped (part-within xs e p.start p.length h)

-- the places so far, and the names that are left
pub record Storing (text : List ℕ) (old so : List Place) (left all : List (List ℕ)) : Type 0 where
  pub front : take (length old) so ≡ old
  pub longer : length old ≤ length so
  pub names : map (name_at text) (drop (length old) so) ++ left ≡ all

pub storing_first : (text : List ℕ) (old : List Place) (all : List (List ℕ)) → Storing text old old all all
storing_first text old all = record {
  front = take_all (length old) old (omega arith);
  longer = omega arith;
  names = ap (λ (ps : List Place). map (name_at text) ps ++ all) (drop_all (length old) old (omega arith));
}

-- how long the list will be
pub storing_long : (text : List ℕ) (old so : List Place) (left all : List (List ℕ)) → Storing text old so left all → length so + length left ≡ length old + length all
storing_long text old so left all s =
    omega (arith, s.longer, length-drop (length old) so, length-map (drop (length old) so) (name_at text), length-append (map (name_at text) (drop (length old) so)) left, ap length s.names)

pub storing_more : (text : List ℕ) (old so new : List Place) (p : Place) (name : List ℕ) (left all : List (List ℕ)) (room : ℕ) →
    name_at text p ≡ name → new ≡ (if ltb (length so) room then (so ▷ p) else so) → length old + length all ≤ room → Storing text old so (name ∷ left) all → Storing text old new left all
storing_more text old so new p name left all room n f h s =
    let long : length so + suc (length left) ≡ length old + length all = storing_long text old so (name ∷ left) all s in
    let g : new ≡ so ▷ p = pushed so new p room (omega arith) f in
    subst (λ (qs : List Place). Storing text old qs left all) (sym g) (record {
      front = take-append-le (length old) so (p ∷ []) s.longer ∙ s.front;
      longer = omega (arith, length-append so (p ∷ []), s.longer);
      names =
          ap (λ (qs : List Place). map (name_at text) qs ++ left) (drop-append-le (length old) so (p ∷ []) s.longer) ∙
          ap (λ (ns : List (List ℕ)). ns ++ left) (map-append (name_at text) (drop (length old) so) (p ∷ [])) ∙
          append_assoc (map (name_at text) (drop (length old) so)) (name_at text p ∷ []) left ∙
          ap (λ (m : List ℕ). map (name_at text) (drop (length old) so) ++ m ∷ left) n ∙ s.names;
    })

pub storing_last : (text : List ℕ) (old so : List Place) (left all : List (List ℕ)) → left ≡ [] → Storing text old so left all → Stored text old so all
storing_last text old so left all e s = record {
  front = s.front;
  added = sym (append-nil (map (name_at text) (drop (length old) so))) ∙ ap (λ (ns : List (List ℕ)). map (name_at text) (drop (length old) so) ++ ns) (sym e) ∙ s.names;
}
