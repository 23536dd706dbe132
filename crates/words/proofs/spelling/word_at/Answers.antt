use Rattle.words.proofs.Spells.{escapes-back}
use Rattle.words.proofs.spelling.word_at.Goals as goal

pub returns-in_err-behind-clause-back : goal.returns-in_err-behind-clause-back
returns-in_err-behind-clause-back c = escapes-back

pub returns-clause-back : goal.returns-clause-back
returns-clause-back c = escapes-back
