use Rattle.std.proofs.Common.{◌≤◌}
use Rattle.file_tests.proofs.memory_disks.calls_done.Given as goal

abbrev pub invariant-loop : goal.invariant-loop
invariant-loop g l = l.done ≤ l.counter
