use Rattle.std.proofs.Common.{◌≡◌}
use Rattle.words.specs.Line.{lines_left}
use Rattle.words.specs.Lines.{lines_of}
use Rattle.manifest.specs.Books.{read_lines}
use Rattle.manifest.specs.Kept.{reading_of}
use Rattle.manifest.proofs.reader.Reader.read_lines.Given as goal

-- the lines that are left give the answer
abbrev pub invariant-loop-line : goal.invariant-loop-line
invariant-loop-line l =
    (goal.iterator-loop-line).can_next l.line-iterator
    × (goal.iterator-loop-line).is_finite l.line-iterator
    × (l.line-iterator.text.now ≡ l.text)
    × (read_lines l.line-iterator.number (lines_left l.line-iterator) (reading_of l.text l.self) ≡ read_lines 1 (lines_of l.text) (reading_of l.text l.initial.self))
