use Rattle.std.proofs.Common.{◌≡◌}
use Rattle.record_locks.proofs.Blocks.{file_blocker, of_file}
use Rattle.record_locks.proofs.locks.Locks.file_blocker.Given as goal

abbrev pub invariant-loop-name : goal.invariant-loop-name
invariant-loop-name l = file_blocker l.file l.t l.name-iterator ≡ file_blocker l.file l.t (of_file l.file l.self)
