-- What the words and marks that the code has read stand for. Assumes nothing.
use Rattle.std.specs.Prelude.{◌≡◌, ℕ, ◌+◌, ◌≤◌, Bool, false, List, [], ◌∷◌, length, drop, Some, None, Option, nat_lt}
use Rattle.terms.specs.Lists.{some}
use Rattle.words.specs.declared.spelling.Word.{Word}
use Rattle.words.specs.declared.token.Token.{Token}
use Rattle.words.specs.declared.token.Token.TheVariants as token
use Rattle.words.specs.Spelling.{name_at}
use Rattle.words.specs.Tokens.{Lexeme, colon, bar, bars, wrong, named, tokens}
use Rattle.manifest.specs.declared.group.Group.{Group}
use Rattle.manifest.specs.declared.built.Built.{Built}
use Rattle.manifest.specs.declared.built.BuiltInputs.{BuiltInputs}
use Rattle.manifest.specs.Building.{Inputs, Build, is_colon, is_bar, is_bars, names_of, marks_of}

-- a name of over 120 bytes
abbrev pub is_long : List ℕ → Bool
is_long name = nat_lt 120 (length name)

-- what stands from a token on, with the offset behind it
abbrev pub rest : List ℕ → Token → ℕ → List Lexeme
rest bytes token.Colon next = colon ∷ tokens (drop next bytes)
rest bytes token.Bar next = bar ∷ tokens (drop next bytes)
rest bytes token.Bars next = bars ∷ tokens (drop next bytes)
rest bytes token.Wrong next = wrong ∷ tokens (drop next bytes)
rest bytes (token.Word w) next = named (name_at bytes w.place) ∷ tokens (drop next bytes)
rest bytes token.End next = []

-- the two marks that part the inputs of a statement, and what they are in a line
abbrev pub PartsInputs : Token → Type 0
PartsInputs token.Colon = ⊥
PartsInputs token.Bar = Unit {0}
PartsInputs token.Bars = Unit {0}
PartsInputs token.Wrong = ⊥
PartsInputs (token.Word w) = ⊥
PartsInputs token.End = ⊥

abbrev pub is_mark : Token → Lexeme → Bool
is_mark token.Colon t = is_colon t
is_mark token.Bar t = is_bar t
is_mark token.Bars t = is_bars t
is_mark token.Wrong t = false
is_mark (token.Word w) t = false
is_mark token.End t = false

-- the names of some words
abbrev pub group_names : List ℕ → Group → List (List ℕ)
group_names bytes g = names_of (tokens (drop g.at bytes))

-- how many they are, and whether one is long
pub record Sums (bytes : List ℕ) (g : Group) : Type 0 where
  pub count : g.count ≡ length (group_names bytes g)
  pub long : g.long ≡ some is_long (group_names bytes g)

-- all words from an offset on
pub record Gathered (bytes : List ℕ) (at : ℕ) (g : Group) : Type 0 where
  pub begins : g.at ≡ at
  pub sums : Sums bytes g
  pub marks : rest bytes g.mark g.next ≡ marks_of (tokens (drop at bytes))

abbrev pub inputs_shown : List ℕ → BuiltInputs → Inputs
inputs_shown bytes b = record { plain = group_names bytes b.plain; implicit = group_names bytes b.implicit; order = group_names bytes b.order }

abbrev pub word_name : List ℕ → Word → List ℕ
word_name bytes w = name_at bytes w.place

abbrev pub built_shown : List ℕ → Built → Build
built_shown bytes b = record { outputs = group_names bytes b.outputs; rule = word_name bytes b.rule; inputs = inputs_shown bytes b.inputs }

-- The sums of all that was read.
abbrev pub InputSums : List ℕ → Option BuiltInputs → Type 0
InputSums bytes None = Unit {0}
InputSums bytes (Some b) = Sums bytes b.plain × Sums bytes b.implicit × Sums bytes b.order

-- a word stands within the bytes, and its length is that of its name
abbrev pub WordSums : List ℕ → Option Word → Type 0
WordSums bytes None = Unit {0}
WordSums bytes (Some w) = (w.length ≡ length (word_name bytes w)) × (w.place.start + w.place.length ≤ length bytes)

-- where a token that was read is a word, it is such a one, and the offset behind it is within the bytes
abbrev pub Measured : List ℕ → Token → ℕ → Type 0
Measured bytes t next = (w : Word) → t ≡ token.Word w → WordSums bytes (Some w) × (next ≤ length bytes)

abbrev pub BuildSums : List ℕ → Option Built → Type 0
BuildSums bytes None = Unit {0}
BuildSums bytes (Some b) = Sums bytes b.outputs × InputSums bytes (Some b.inputs) × WordSums bytes (Some b.rule)
