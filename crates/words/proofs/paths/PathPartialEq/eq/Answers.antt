use Rattle.std.proofs.Common.{rules}
use Rattle.std.specs.Cmp.Lexicographic.{texts_ties}
use Rattle.words.proofs.paths.PathPartialEq.eq.Goals as goal

pub returns : goal.returns
returns c = search (rules, texts_ties)
