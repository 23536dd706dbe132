-- How names are spelled as words. Assumes nothing.
use Rattle.std.specs.Prelude.{◌≡◌, ℕ, suc, ◌+◌, Bool, true, false, cond, not, ◌&&◌, ◌||◌, List, [], ◌∷◌, ◌++◌, length, take, drop, Some, None, Option, ◌==◌}
use Rattle.std.specs.Option.{option_map}
use Rattle.terms.specs.declared.Place.{Place}
use Rattle.terms.specs.Lists.{every}

-- space, colon and bar end a word
abbrev pub ends : ℕ → Bool
ends b = b == 32 || (b == 58 || b == 124)

-- space, colon and `$` are spelled with a `$` before them, and no other byte is
abbrev pub escapes : ℕ → Bool
escapes b = b == 32 || (b == 58 || b == 36)

-- how many bytes a word takes, and the name that it spells
pub record Spelled : Type 0 where
  pub taken : ℕ
  pub name : List ℕ

abbrev pub nothing : Spelled
nothing = record { taken = 0; name = [] }

-- a byte before the rest of a word; a `$` that is a sign is no part of the name
abbrev pub further : (sign : Bool) → ℕ → Spelled → Spelled
further sign b s = record { taken = suc s.taken; name = cond sign s.name (b ∷ s.name) }

-- the rest of a word, `dollar` saying that a sign stands before it: nothing where a sign stands before another byte or none
abbrev pub spelling : (dollar : Bool) → List ℕ → Option Spelled
spelling dollar [] = cond dollar None (Some nothing)
spelling dollar (b ∷ bs) =
    cond (not dollar && ends b) (Some nothing)
    (cond (dollar && not (escapes b)) None
    (option_map (further (not dollar && b == 36) b) (spelling (not dollar && b == 36) bs)))

-- the word at the front
abbrev pub word : List ℕ → Option Spelled
word bs = spelling false bs

-- where a word that stands at an offset ends, and the length of its name, n bytes of which are known
abbrev pub measured : ℕ → ℕ → Option Spelled → Option (ℕ × ℕ)
measured at n None = None
measured at n (Some s) = Some (at + s.taken, n + length s.name)

-- a word without its signs
abbrev pub unescaped_from : (dollar : Bool) → List ℕ → List ℕ
unescaped_from dollar [] = []
unescaped_from dollar (b ∷ bs) =
    let rest = unescaped_from (not dollar && b == 36) bs in
    cond (not dollar && b == 36) rest (b ∷ rest)

abbrev pub unescaped : List ℕ → List ℕ
unescaped bs = unescaped_from false bs

-- the name that the word at a place spells
abbrev pub name_at : List ℕ → Place → List ℕ
name_at bytes p = unescaped (take p.length (drop p.start bytes))

-- a name as a word
abbrev pub escaped : List ℕ → List ℕ
escaped [] = []
escaped (b ∷ bs) = let rest = escaped bs in cond (escapes b) (36 ∷ b ∷ rest) (b ∷ rest)

-- no bytes, or one that ends a word, come next
abbrev pub stops : List ℕ → Bool
stops [] = true
stops (b ∷ bs) = ends b

-- Escaping a name and reading the word gives the name back, whatever follows the word. A bar has no escape: a name with one cannot be spelled.
abbrev pub EscapesBack : Type 0
EscapesBack =
    (name rest : List ℕ) → every (λ b. not (b == 124)) name ≡ true → stops rest ≡ true →
    word (escaped name ++ rest) ≡ Some (record { taken = length (escaped name); name = name })
