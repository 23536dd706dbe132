-- What always holds of what was read of a manifest so far. Assumes nothing.
use Rattle.std.specs.Prelude.{ℕ, ◌+◌, ◌*◌, ◌≤◌, List, length, All}
use Rattle.terms.specs.declared.Place.{Place}
use Rattle.lists.specs.declared.grow.GrowList.{GrowList}
use Rattle.lists.specs.Grown.{items, room}
use Rattle.manifest.specs.declared.rule.Rule.{Rule}
use Rattle.manifest.specs.declared.rule.Statement.{Statement}

-- where a statement's words end
abbrev pub words_end : Statement → ℕ
words_end s = s.first + s.outputs + s.plain + s.implicit + s.order

-- each statement's words are among the first n
abbrev pub Within : ℕ → List Statement → Type 0
Within n ss = All (λ s. words_end s ≤ n) ss

-- There is memory for 64 rules, 128 statements and 40 words for each, and each statement's words are there.
pub record Sound (rules : GrowList Rule) (statements : GrowList Statement) (words : GrowList Place) : Type 0 where
  pub for_rules : 64 ≤ room rules
  pub for_statements : 128 ≤ room statements
  pub for_words : 5120 ≤ room words
  pub packed : length (items words) ≤ 40 * length (items statements)
  pub within : Within (length (items words)) (items statements)
