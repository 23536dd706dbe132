-- What the words and marks of a line say. Assumes nothing.
use Rattle.std.specs.Prelude.{ℕ, Bool, true, false, cond, List, [], ◌∷◌, map, Some, None, Option}
use Rattle.terms.specs.Lists.{empty}
use Rattle.words.specs.Runs.{front, beyond}
use Rattle.words.specs.Tokens.{Lexeme, colon, bar, bars, wrong, named}

-- Kinds of tokens --------------------------------------------------------------------------------------------------------

abbrev pub is_named : Lexeme → Bool
is_named colon = false
is_named bar = false
is_named bars = false
is_named wrong = false
is_named (named n) = true

abbrev pub is_colon : Lexeme → Bool
is_colon colon = true
is_colon bar = false
is_colon bars = false
is_colon wrong = false
is_colon (named n) = false

abbrev pub is_bar : Lexeme → Bool
is_bar colon = false
is_bar bar = true
is_bar bars = false
is_bar wrong = false
is_bar (named n) = false

abbrev pub is_bars : Lexeme → Bool
is_bars colon = false
is_bars bar = false
is_bars bars = true
is_bars wrong = false
is_bars (named n) = false

abbrev pub spelled : Lexeme → List ℕ
spelled colon = []
spelled bar = []
spelled bars = []
spelled wrong = []
spelled (named n) = n

-- Lines ------------------------------------------------------------------------------------------------------------------

-- the names at the front, and what stands behind them
abbrev pub names_of : List Lexeme → List (List ℕ)
names_of ts = map spelled (front is_named ts)

abbrev pub marks_of : List Lexeme → List Lexeme
marks_of ts = beyond is_named ts

-- the names behind one mark, none where another stands there; and what stands behind them
abbrev pub following : (Lexeme → Bool) → List Lexeme → List (List ℕ)
following mark [] = []
following mark (t ∷ ts) = cond (mark t) (names_of ts) []

abbrev pub behind : (Lexeme → Bool) → List Lexeme → List Lexeme
behind mark [] = []
behind mark (t ∷ ts) = cond (mark t) (marks_of ts) (t ∷ ts)

-- the inputs of a statement
pub record Inputs : Type 0 where
  pub plain : List (List ℕ)
  pub implicit : List (List ℕ)
  pub order : List (List ℕ)

-- words, then a bar and words, then two bars and words; each mark at most once, in this order, and either may be absent
abbrev pub inputs_of : List Lexeme → Option Inputs
inputs_of ts =
    cond (empty (behind is_bars (behind is_bar (marks_of ts))))
    (Some (record { plain = names_of ts; implicit = following is_bar (marks_of ts); order = following is_bars (behind is_bar (marks_of ts)) }))
    None

-- what a build line says
pub record Build : Type 0 where
  pub outputs : List (List ℕ)
  pub rule : List ℕ
  pub inputs : Inputs

abbrev pub with_inputs : List (List ℕ) → List ℕ → Option Inputs → Option Build
with_inputs outputs rule None = None
with_inputs outputs rule (Some i) = Some (record { outputs = outputs; rule = rule; inputs = i })

abbrev pub with_rule : List (List ℕ) → List Lexeme → Option Build
with_rule outputs [] = None
with_rule outputs (t ∷ ts) = cond (is_named t) (with_inputs outputs (spelled t) (inputs_of ts)) None

abbrev pub with_colon : List (List ℕ) → List Lexeme → Option Build
with_colon outputs [] = None
with_colon outputs (t ∷ ts) = cond (is_colon t) (cond (empty outputs) None (with_rule outputs ts)) None

-- `OUTS: RULE INS | IMPLICIT || ORDER-ONLY`; nothing where it is not understood
abbrev pub build_of : List Lexeme → Option Build
build_of ts = with_colon (names_of ts) (marks_of ts)

-- one word and no more
abbrev pub rule_of : List Lexeme → Option (List ℕ)
rule_of [] = None
rule_of (t ∷ ts) = cond (is_named t) (cond (empty ts) (Some (spelled t)) None) None
