use Rattle.std.proofs.Common.{take, Ok}
use Rattle.depslog.specs.Drafting.{paths_bytes}
use Rattle.depslog.specs.Texts.{texts}
use Rattle.depslog.proofs.added.Added.put.Given as goal

-- the records so far are put
abbrev pub invariant-loop-k : goal.invariant-loop-k
invariant-loop-k g l = g.S.Sink.puts (paths_bytes l.self.first (texts (take l.k l.name-items))) (g.M.Medium.state l.initial.medium) (Ok tt) (g.M.Medium.state l.medium)
