use Rattle.std.proofs.Common.{◌≡◌, ◌++◌, take}
use Rattle.rollforward.specs.Rolled.{entries_of}
use Rattle.rollforward.proofs.rolled.push_records.Given as goal

abbrev pub invariant-loop-key : goal.invariant-loop-key
invariant-loop-key l = l.records.items ≡ l.initial.records.items ++ entries_of l.file (take l.key-index l.block.records)
