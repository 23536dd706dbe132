-- An element more, where there is memory for it. Assumes nothing.
use Rattle.std.proofs.Common.{◌≡◌, ℕ, ◌<◌, if◌then◌else◌, ltb, List, length, Ok, Err, Result, ◌∙◌}
use Rattle.std.proofs.lemmas.Bool.{lt-ltb, cond-true}
use Rattle.terms.specs.Lists.{◌▷◌}

pub pushed : {T : Type 0} (old new : List T) (x : T) (room : ℕ) → length old < room → new ≡ (if ltb (length old) room then (old ▷ x) else old) → new ≡ old ▷ x
pushed old new x room h e = e ∙ cond-true (ltb (length old) room) (old ▷ x) old (lt-ltb (length old) room h)

pub taken : {E : Type 0} (r : Result (Unit {0}) E) (e : E) (n room : ℕ) → n < room → r ≡ (if ltb n room then Ok tt else Err e) → r ≡ Ok tt
taken r e n room h f = f ∙ cond-true (ltb n room) (Ok tt) (Err e) (lt-ltb n room h)
