use Rattle.std.proofs.Common.{◌≡◌, ◌-◌, length}
use Rattle.crossbeam_queue.specs.SegTies.{IsSegPassOf}
use Rattle.commit_boxcar.specs.Requests.{asking_for, workers_from}
use Rattle.commit_boxcar.proofs.queue.locks_of.Given as goal

abbrev pub invariant-loop-worker : goal.invariant-loop-worker
invariant-loop-worker g l = IsSegPassOf g.Q.RequestsName.queue l.pass × (l.pass.me.view.client ≡ asking_for (workers_from l.worker (17 - l.worker))) × (length l.locks.items ≡ l.worker)
