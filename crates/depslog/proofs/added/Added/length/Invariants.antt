use Rattle.std.proofs.Common.{◌≡◌, ℕ, ◌+◌, ◌*◌, ◌≤◌, map, length, take}
use Rattle.image.specs.Bytes.{path, records_bytes}
use Rattle.image.specs.View.{entry_of}
use Rattle.depslog.specs.Texts.{texts}
use Rattle.depslog.proofs.added.Added.length.Given as goal

-- the bytes of the deps record and of the path records so far, each at most 128, whatever their ids
abbrev pub invariant-loop-name : goal.invariant-loop-name
invariant-loop-name l =
    ((id : ℕ) → l.total ≡ 16 + 4 * length (entry_of l.self.entry).inputs + length (records_bytes id (map path (texts (take l.name-index l.name-items)))))
    × (l.total ≤ 272 + 128 * l.name-index)
