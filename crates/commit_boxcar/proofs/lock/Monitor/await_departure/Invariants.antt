use Rattle.std.proofs.Common.{◌-◌, ◌≤◌}
use Rattle.commit_boxcar.proofs.lock.Monitor.await_departure.Given as goal

abbrev pub invariant-loop-holds : goal.invariant-loop-holds
invariant-loop-holds g l = l.holds ≤ 1000

abbrev pub decreases-loop-holds : goal.decreases-loop-holds
decreases-loop-holds g l = 1000 - l.holds
