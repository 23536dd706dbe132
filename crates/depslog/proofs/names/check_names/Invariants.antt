use Rattle.std.proofs.Common.{◌≡◌, ◌+◌, None, drop}
use Rattle.depslog.specs.Noting.{name_fault}
use Rattle.depslog.proofs.names.check_names.Given as goal

-- the inputs that are left give the answer
abbrev pub invariant-loop-k : goal.invariant-loop-k
invariant-loop-k l = name_fault l.note.bytes.now (l.k + 1) (drop l.k l.note.inputs.now) None ≡ name_fault l.note.bytes.now 1 l.note.inputs.now None
