use Rattle.std.proofs.Common.{refl}
use Rattle.words.proofs.Lines.{line_first}
use Rattle.words.proofs.each_line.TextLinesIterator.next.Goals as goal

pub returns-clause-steps : goal.returns-clause-steps
returns-clause-steps c = record {
  first = line_first c.args.self.now.text.now c.args.self.now.at c.span_end-end.result c.if-self.false c.span_end-end.ensures.end;
  text = refl;
  number = refl;
  next = refl;
  same = refl;
}
