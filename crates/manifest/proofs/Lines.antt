-- Lines that are read. Assumes nothing.
use Rattle.std.proofs.Common.{◌≡◌, ℕ, ◌+◌, ◌-◌, ◌<◌, ◌≤◌, true, false, List, [], map, length, get_or, take, drop, set, Some, sym, ap, ◌∙◌, arith}
use Rattle.std.specs.Str.{bytes_eq}
use Rattle.std.specs.List.{slice_get}
use Rattle.std.proofs.lemmas.Option.{slice_get_within, get_or_from_slice_get}
use Rattle.std.proofs.lemmas.Slice.Eq.{bytes_eq-Decides}
use Rattle.std.proofs.lemmas.List.{length-take, length-drop, length-map, map-set, get_or-map}
use Rattle.manifest.specs.declared.rule.Rule.{Rule}
use Rattle.manifest.specs.Books.{Declaration, keeping}
use Rattle.manifest.specs.Views.{declaration}

-- what a line begins with stands within it
pub begins-within : (xs w : List ℕ) (at : ℕ) → bytes_eq (take (length w) (drop at xs)) w ≡ true → 0 < length w → at + length w ≤ length xs
begins-within xs w at e h =
    let f : take (length w) (drop at xs) ≡ w = (bytes_eq-Decides (take (length w) (drop at xs)) w).0 e in
    omega (arith, ap length f, length-take (length w) (drop at xs), length-drop at xs)

-- the last rule keeps deps
pub kept-last : (text : List ℕ) (xs : List Rule) (n : ℕ) (r : Rule) → n ≡ length xs → slice_get xs (length xs - 1) ≡ Some r →
    map (declaration text) (set xs (n - 1) (record { name = r.name; keeps = true })) ≡ keeping (map (declaration text) xs)
kept-last text xs n r e h =
    let D = declaration text in
    let blank : Declaration = record { name = []; keeps = false } in
    let ds = map D xs in
    let some : length xs - 1 < length xs = slice_get_within xs (length xs - 1) r h in
    let k : n - 1 ≡ length ds - 1 = omega (arith, length-map xs D) in
    let g = get_or-map D xs (n - 1) r blank (omega arith) in
    let v : get_or xs (n - 1) r ≡ r = ap (λ (m : ℕ). get_or xs (m - 1) r) e ∙ get_or_from_slice_get xs (length xs - 1) r r h in
    map-set D xs (n - 1) (record { name = r.name; keeps = true }) ∙
    ap (λ (d : Declaration). set ds (n - 1) (record { name = d.name; keeps = true })) (sym (g ∙ ap D v)) ∙
    ap (λ (i : ℕ). set ds i (record { name = (get_or ds i blank).name; keeps = true })) k
