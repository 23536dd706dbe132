-- Path records one after the other, and names by references. Assumes nothing.
use Rattle.std.proofs.Common.{◌≡◌, ℕ, zero, suc, ◌+◌, ◌<◌, Bool, true, List, [], ◌∷◌, ◌++◌, map, length, get_or, take, sym, ap, ◌∙◌, arith, Bor}
use Rattle.std.proofs.lemmas.List.{append-nil, get_or-map, length-map, take_more}
use Rattle.std.proofs.lemmas.Bool.{and_parts}
use Rattle.terms.specs.Lists.{every, ◌▷◌}
use Rattle.terms.specs.Names.{is_name}
use Rattle.image.specs.Bytes.{path, record_bytes}
use Rattle.depslog.specs.Drafting.{paths_bytes}
use Rattle.depslog.specs.Texts.{texts}
use Rattle.depslog.proofs.Freshly.{texts_push}
use Rattle.depslog.proofs.Paths.{paths-both}

-- one more at the end
pub paths_push : (id : ℕ) (ns : List (List ℕ)) (n : List ℕ) → paths_bytes id (ns ▷ n) ≡ paths_bytes id ns ++ record_bytes (id + length ns) (path n)
paths_push id ns n = paths-both id ns (n ∷ []) ∙ ap (λ (xs : List ℕ). paths_bytes id ns ++ xs) (append-nil (record_bytes (id + length ns) (path n)))

every_get : {A : Type 0} (p : A → Bool) (xs : List A) (k : ℕ) (d : A) → every p xs ≡ true → k < length xs → p (get_or xs k d) ≡ true
every_get p [] k d e h = absurd (omega arith)
every_get p (x ∷ xs) zero d e h = (and_parts (p x) (every p xs) e).0
every_get p (x ∷ xs) (suc k) d e h = every_get p xs k d (and_parts (p x) (every p xs) e).1 (omega arith)

-- a reference to no bytes
abbrev pub nowhere : Bor (List ℕ)
nowhere = record { ref_ptr = (0, 0); now = [] }

-- the name at an index
pub name_among : {A : Type 0} (f : A → List ℕ) (xs : List A) (k : ℕ) (d : A) → every is_name (map f xs) ≡ true → k < length xs → is_name (f (get_or xs k d)) ≡ true
name_among f xs k d e h = ap is_name (sym (get_or-map f xs k d [] h)) ∙ every_get is_name (map f xs) k [] e (omega (arith, h, length-map xs f))

pub named_at : (xs : List (Bor (List ℕ))) (k : ℕ) (d : Bor (List ℕ)) → every is_name (texts xs) ≡ true → k < length xs → is_name (get_or xs k d).now ≡ true
named_at xs k d e h = name_among (λ (y : Bor (List ℕ)). y.now) xs k d e h

-- those up to an index
pub texts_more : (xs : List (Bor (List ℕ))) (k : ℕ) (d : Bor (List ℕ)) → k < length xs → texts (take (k + 1) xs) ≡ texts (take k xs) ▷ (get_or xs k d).now
texts_more xs k d h = ap texts (take_more xs k d h) ∙ texts_push (take k xs) (get_or xs k d)

pub texts_long : (xs : List (Bor (List ℕ))) → length (texts xs) ≡ length xs
texts_long xs = length-map xs (λ (y : Bor (List ℕ)). y.now)
