use Rattle.std.proofs.Common.{◌≡◌, map, take, w32}
use Rattle.std.specs.Int.{from_le_bytes}
use Rattle.image.specs.View.{entry_of}
use Rattle.image.proofs.records.Deps.entry.Given as goal

-- the ids so far are gathered
abbrev pub invariant-loop-id : goal.invariant-loop-id
invariant-loop-id l = record {
  timed : (entry_of l.gathered).mtime ≡ l.self.mtime;
  made : (entry_of l.gathered).inputs ≡ map (from_le_bytes w32) (take l.id-index l.words);
}
