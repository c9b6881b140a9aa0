use Rattle.run_worker.proofs.ToldBehind.{attempt_tells}
use Rattle.run_worker.proofs.laws.attempt_law.Goals as goal

pub returns : goal.returns
returns g c = attempt_tells c.events_law.ensures c.holder_law.ensures c.knowing_law.ensures.still c.knowing_law.ensures.next c.next_law.ensures.go_on g.D.Disk
