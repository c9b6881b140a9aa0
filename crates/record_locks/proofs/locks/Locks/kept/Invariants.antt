use Rattle.std.proofs.Common.{◌≡◌, ◌++◌}
use Rattle.record_locks.proofs.Blocks.{kept_in, of_file}
use Rattle.record_locks.proofs.locks.Locks.kept.Given as goal

abbrev pub invariant-loop-name : goal.invariant-loop-name
invariant-loop-name l = l.kept.items ++ kept_in l.file l.block l.blocks l.name-iterator ≡ kept_in l.file l.block l.blocks (of_file l.file l.self)
