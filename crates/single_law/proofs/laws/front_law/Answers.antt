use Rattle.run_standing.specs.Telling.{telling}
use Rattle.single_law.proofs.Single.{front_law}
use Rattle.single_law.proofs.laws.front_law.Goals as goal

pub returns-clause-ran : goal.returns-clause-ran
returns-clause-ran g c = front_law c.done_law.ensures c.events_law.ensures c.holder_law.ensures c.live_law.ensures c.reads_law.ensures g.D.Disk

pub returns-clause-known : goal.returns-clause-known
returns-clause-known g c = front_law c.done_law.ensures c.events_law.ensures c.holder_law.ensures c.live_law.ensures c.reads_law.ensures (telling g.D.Disk.held g.D.Disk.faults)
