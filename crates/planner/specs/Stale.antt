-- Which statements are stale, and why; what they need; and when a list is the plan. Assumes nothing.
use Rattle.std.specs.Prelude.{◌≡◌, ℕ, ◌+◌, ◌<◌, Bool, true, false, cond, not, ◌&&◌, T, List, [], ◌∷◌, ◌++◌, length, get_or, Some, None, Option, nat_lt, slice_index_or}
use Rattle.std.specs.Str.{bytes_eq}
use Rattle.terms.specs.Lists.{some, is_in}
use Rattle.manifest.specs.Books.{Making, Book, is_made}
use Rattle.listing.specs.Rows.{Listed, is_listed}
use Rattle.planner.specs.declared.letter.Letter.{Letter}
use Rattle.planner.specs.declared.letter.Letter.TheVariants.{Missing, Lacking, Outdated, Gone, Spoilt, Newer}
use Rattle.planner.specs.declared.letter.PlanLine.{PlanLine}
use Rattle.planner.specs.Noted.{Noted}

-- What a plan is made from: the manifest, the listing, and the entry of each output's name.
pub record World : Type 0 where
  pub book : Book
  pub listing : List Listed
  pub entry : List ℕ → Option Noted

-- Inputs and times -------------------------------------------------------------------------------------------------------

abbrev pub keeps_deps : World → Making → Bool
keeps_deps w s = (get_or w.book.rules s.rule (record { name = []; keeps = false })).keeps

abbrev pub first_output : Making → List ℕ
first_output s = slice_index_or s.outputs 0 []

-- A statement's entry is that of its first output, if its rule keeps deps.
abbrev pub entry_for : World → Making → Option Noted
entry_for w s = cond (keeps_deps w s) (w.entry (first_output s)) None

abbrev pub entry_inputs : Option Noted → List (List ℕ)
entry_inputs None = []
entry_inputs (Some e) = e.inputs

-- plain, implicit, and the entry's own
abbrev pub inputs : World → Making → List (List ℕ)
inputs w s = s.inputs.plain ++ (s.inputs.implicit ++ entry_inputs (entry_for w s))

-- the mtime of a listed path
abbrev pub time_in : List Listed → List ℕ → Option ℕ
time_in [] name = None
time_in (r ∷ rs) name = cond (bytes_eq name r.name) (Some r.mtime) (time_in rs name)

abbrev pub below : Option ℕ → Option ℕ → Bool
below None b = false
below (Some a) None = false
below (Some a) (Some b) = nat_lt a b

-- both are listed, and the first is older than the second
abbrev pub older : World → List ℕ → List ℕ → Bool
older w a b = below (time_in w.listing a) (time_in w.listing b)

-- The six reasons, `stale` telling which paths are stale ---------------------------------------------------------------------

-- an output is not listed
abbrev pub missing : World → Making → Bool
missing w s = some (λ o. not (is_listed w.listing o)) s.outputs

abbrev pub is_there : {A : Type 0} → Option A → Bool
is_there None = false
is_there (Some x) = true

-- the rule keeps deps and there is no entry
abbrev pub lacking : World → Making → Bool
lacking w s = keeps_deps w s && not (is_there (entry_for w s))

-- the entry's mtime is below the first output's
abbrev pub outdated : World → Making → Option Noted → Bool
outdated w s None = false
outdated w s (Some e) = below (Some e.mtime) (time_in w.listing (first_output s))

-- an input is not listed and no statement makes it
abbrev pub gone : World → Making → Bool
gone w s = some (λ i. not (is_listed w.listing i) && not (is_made w.book.statements i)) (inputs w s)

-- an input is stale
abbrev pub spoilt : World → (List ℕ → Bool) → Making → Bool
spoilt w stale s = some stale (inputs w s)

-- some input is newer than some output
abbrev pub newer : World → Making → Bool
newer w s = some (λ i. some (λ o. older w o i) s.outputs) (inputs w s)

-- the first reason that holds
abbrev pub letter_of : World → (List ℕ → Bool) → Making → Option Letter
letter_of w stale s =
    cond (missing w s) (Some Missing)
    (cond (lacking w s) (Some Lacking)
    (cond (outdated w s (entry_for w s)) (Some Outdated)
    (cond (gone w s) (Some Gone)
    (cond (spoilt w stale s) (Some Spoilt)
    (cond (newer w s) (Some Newer) None)))))

-- Plans ------------------------------------------------------------------------------------------------------------------

abbrev pub line_for : ℕ → Option Letter → List PlanLine
line_for i None = []
line_for i (Some l) = record { number = i; letter = l } ∷ []

-- number and letter of each stale statement in manifest order, the first statement being number i
abbrev pub lines_from : World → (List ℕ → Bool) → ℕ → List Making → List PlanLine
lines_from w stale i [] = []
lines_from w stale i (s ∷ ss) = line_for i (letter_of w stale s) ++ lines_from w stale (i + 1) ss

abbrev pub nothing_made : Making
nothing_made = record { line = 0; rule = 0; outputs = []; inputs = record { plain = []; implicit = []; order = [] } }

abbrev pub statement_at : World → ℕ → Making
statement_at w i = slice_index_or w.book.statements i nothing_made

-- the paths that the plan's own statements make
abbrev pub stale_in : World → List PlanLine → List ℕ → Bool
stale_in w plan name = some (λ l. is_in name (statement_at w l.number).outputs) plan

-- A list meets the rules when it is so made, with S counting as stale exactly the paths that its own statements make.
abbrev pub Meets : World → List PlanLine → Type 0
Meets w plan = plan ≡ lines_from w (stale_in w plan) 0 w.book.statements

-- Needs and cycles -------------------------------------------------------------------------------------------------------

-- statement i needs statement j, perhaps itself: j makes one of its inputs, order-only ones counted too
pub record Needs (w : World) (i j : ℕ) : Type 0 where
  pub input : List ℕ
  pub used : T (is_in input (inputs w (statement_at w i) ++ (statement_at w i).inputs.order))
  pub made : T (is_in input (statement_at w j).outputs)

-- a chain of needs
pub data Chain (w : World) : ℕ → ℕ → Type 0 where
  one : {i j : ℕ} → Needs w i j → Chain w i j
  more : {i j k : ℕ} → Needs w i j → Chain w j k → Chain w i k

-- A chain of needs that returns is a cycle.
abbrev pub Cyclic : World → ℕ → Type 0
Cyclic w i = Chain w i i

-- a statement is the first that is on a cycle, and stands in this line
pub record FirstCyclic (w : World) (line : ℕ) : Type 0 where
  pub number : ℕ
  pub within : number < length w.book.statements
  pub returns : Cyclic w number
  pub first : (k : ℕ) → k < number → Cyclic w k → ⊥
  pub place : line ≡ (statement_at w number).line

abbrev pub NoCycle : World → Type 0
NoCycle w = (i : ℕ) → Cyclic w i → ⊥
