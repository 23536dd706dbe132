use Rattle.std.proofs.Common.{◌++◌, take}
use Rattle.image.specs.Bytes.{words}
use Rattle.image.specs.View.{entry_of}
use Rattle.image.proofs.Writes.{Fronted, deps-head}
use Rattle.image.proofs.writer.write_deps.Given as goal

-- the head and the words so far stand before what was there
abbrev pub invariant-loop-k : goal.invariant-loop-k
invariant-loop-k l = Fronted (deps-head l.word l.output (entry_of l.entry).mtime ++ words (take l.k l.inputs)) l.fn.buf l.buf
