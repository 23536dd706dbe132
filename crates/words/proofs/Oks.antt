-- What `ok_or` was given, by what `?` made of it. Assumes nothing.
use Rattle.std.proofs.Common.{◌≡◌, Some, None, Ok, Option, Result}
use Rattle.std.specs.Option.{ok_or}

pub given : {A E : Type 0} (o : Option A) (e : E) (r : Result A E) (x : A) → r ≡ ok_or o e → r ≡ Ok x → o ≡ Some x
given None e r x p q = cc
given (Some y) e r x p q = cc
