use Rattle.run_standing.specs.Telling.{telling}
use Rattle.single_law.proofs.Dumps.{dumps_law}
use Rattle.single_law.proofs.laws.dumps_law.Goals as goal

pub returns-clause-ran : goal.returns-clause-ran
returns-clause-ran g c = dumps_law c.events_law.ensures g.D.Disk g.met.D.Disk.sound

pub returns-clause-known : goal.returns-clause-known
returns-clause-known g c = dumps_law c.events_law.ensures (telling g.D.Disk.held g.D.Disk.faults) g.met.D.Disk.sound
