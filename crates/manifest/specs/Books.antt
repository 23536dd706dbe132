-- What a manifest says, line by line, and the first refusal of one that breaks a rule. Assumes nothing.
use Rattle.std.specs.Prelude.{ℕ, ◌+◌, ◌-◌, Bool, true, false, cond, ◌||◌, List, [], ◌∷◌, length, get_or, drop, Some, None, Ok, Err, Option, Result, nat_le, nat_lt, slice_set}
use Rattle.std.specs.Str.{bytes_eq}
use Rattle.terms.specs.declared.At.{At}
use Rattle.terms.specs.Lists.{some, is_in, place_from, ◌▷◌}
use Rattle.words.specs.Lines.{lines_of}
use Rattle.words.specs.Tokens.{tokens}
use Rattle.manifest.specs.declared.fault.Fault.{Fault}
use Rattle.manifest.specs.declared.fault.Fault.TheVariants.{NotUnderstood, RuleDeclared, PastLimit, MadeTwice}
use Rattle.manifest.specs.declared.owner.Owner.{Owner}
use Rattle.manifest.specs.declared.owner.Owner.TheVariants.{LastRule, LastStatement}
use Rattle.manifest.specs.declared.kind.Kind.{Kind}
use Rattle.manifest.specs.declared.kind.Kind.TheVariants as kind
use Rattle.manifest.specs.Kinds.{kind_of}
use Rattle.manifest.specs.Bindings.{binding_of}
use Rattle.manifest.specs.Building.{Inputs, Build, build_of, rule_of}
use Rattle.manifest.specs.Groups.{is_long}

-- What is kept -----------------------------------------------------------------------------------------------------------

-- a rule's name, and whether it keeps deps
pub record Declaration : Type 0 where
  pub name : List ℕ
  pub keeps : Bool

-- a statement: its line, its rule's number, and its names
pub record Making : Type 0 where
  pub line : ℕ
  pub rule : ℕ
  pub outputs : List (List ℕ)
  pub inputs : Inputs

pub record Book : Type 0 where
  pub rules : List Declaration
  pub statements : List Making

-- what was read so far, and what an indented line would belong to, if to anything
pub record Reading : Type 0 where
  pub book : Book
  pub owner : Option Owner

abbrev pub blank : Reading
blank = record { book = record { rules = []; statements = [] }; owner = None }

-- Looking up -------------------------------------------------------------------------------------------------------------

-- the number of the first rule with a name
abbrev pub rule_number : List Declaration → List ℕ → Option ℕ
rule_number rules name = place_from 0 (λ r. bytes_eq name r.name) rules

-- the number of the first statement that makes a path, and whether there is one
abbrev pub maker_of : List Making → List ℕ → Option ℕ
maker_of ss name = place_from 0 (λ s. is_in name s.outputs) ss

abbrev pub is_made : List Making → List ℕ → Bool
is_made ss name = some (λ s. is_in name s.outputs) ss

-- whether one of these outputs is made already, or stands among them twice
abbrev pub twice : List Making → List (List ℕ) → Bool
twice ss [] = false
twice ss (o ∷ os) = is_made ss o || (is_in o os || twice ss os)

-- A line -----------------------------------------------------------------------------------------------------------------

-- over 8 outputs, 32 inputs in all or 120 bytes of a name
abbrev pub is_over : Build → Bool
is_over b =
    nat_lt 8 (length b.outputs)
    || (nat_lt 32 (length b.inputs.plain + length b.inputs.implicit + length b.inputs.order)
    || (some is_long b.outputs || (some is_long b.inputs.plain || (some is_long b.inputs.implicit || some is_long b.inputs.order))))

abbrev pub add_rule : Book → List ℕ → Reading
add_rule b name = record { book = record { rules = b.rules ▷ record { name = name; keeps = false }; statements = b.statements }; owner = Some LastRule }

abbrev pub add_statement : ℕ → Book → ℕ → Build → Reading
add_statement line b rule s =
    record { book = record { rules = b.rules; statements = b.statements ▷ record { line = line; rule = rule; outputs = s.outputs; inputs = s.inputs } }; owner = Some LastStatement }

-- A rule is declared once; there are at most 64, with names of at most 120 bytes.
abbrev pub declared_by : Book → List ℕ → Option ℕ → Result Reading Fault
declared_by b name (Some i) = Err RuleDeclared
declared_by b name None = cond (nat_le 64 (length b.rules) || is_long name) (Err PastLimit) (Ok (add_rule b name))

-- A statement's rule is declared above; there are at most 128 statements within the limits; no output is made twice.
abbrev pub stated_by : ℕ → Book → Build → Option ℕ → Result Reading Fault
stated_by line b s None = Err RuleDeclared
stated_by line b s (Some rule) =
    cond (nat_le 128 (length b.statements) || is_over s) (Err PastLimit)
    (cond (twice b.statements s.outputs) (Err MadeTwice) (Ok (add_statement line b rule s)))

abbrev pub read_rule : Book → Option (List ℕ) → Result Reading Fault
read_rule b None = Err NotUnderstood
read_rule b (Some name) = declared_by b name (rule_number b.rules name)

abbrev pub read_build : ℕ → Book → Option Build → Result Reading Fault
read_build line b None = Err NotUnderstood
read_build line b (Some s) = stated_by line b s (rule_number b.rules s.rule)

-- the last rule keeps deps
abbrev pub keeping : List Declaration → List Declaration
keeping rs = let last = length rs - 1 in slice_set rs last (record { name = (get_or rs last (record { name = []; keeps = false })).name; keeps = true })

abbrev pub bound_by : Book → Option Bool → Result Reading Fault
bound_by b None = Err NotUnderstood
bound_by b (Some deps) = Ok (record { book = record { rules = cond deps (keeping b.rules) b.rules; statements = b.statements }; owner = Some LastRule })

-- An indented line belongs to the last rule or statement; under a statement it is skipped.
abbrev pub read_indented : List ℕ → Book → Option Owner → Result Reading Fault
read_indented l b None = Err NotUnderstood
read_indented l b (Some LastRule) = bound_by b (binding_of l)
read_indented l b (Some LastStatement) = Ok (record { book = b; owner = Some LastStatement })

abbrev pub read_as : ℕ → List ℕ → Reading → Kind → Result Reading Fault
read_as line l s kind.Skipped = Ok s
read_as line l s kind.Indented = read_indented l s.book s.owner
read_as line l s kind.Unclear = Err NotUnderstood
read_as line l s kind.Rule = read_rule s.book (rule_of (tokens (drop 5 l)))
read_as line l s kind.Build = read_build line s.book (build_of (tokens (drop 6 l)))

abbrev pub read_line : ℕ → List ℕ → Reading → Result Reading Fault
read_line line l s = read_as line l s (kind_of l)

-- All lines --------------------------------------------------------------------------------------------------------------

-- line by line, the first of them being number `line`; the first fault ends it
abbrev pub read_lines : ℕ → List (List ℕ) → Reading → Result Reading (At Fault)
read_lines line [] s = Ok s
read_lines line (l ∷ ls) s = elim (read_line line l s) [ Ok t ↦ read_lines (line + 1) ls t | Err f ↦ Err (record { offset = line; value = f }) ]

-- what a manifest says, or its first fault with the line
abbrev pub read_manifest : List ℕ → Result Book (At Fault)
read_manifest text = elim (read_lines 1 (lines_of text) blank) [ Ok s ↦ Ok s.book | Err f ↦ Err f ]
