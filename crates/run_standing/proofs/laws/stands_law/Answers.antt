use Rattle.run_standing.proofs.Stands.{stands_law}
use Rattle.run_standing.proofs.laws.stands_law.Goals as goal

pub returns : goal.returns
returns g c = stands_law c.crash_law.ensures c.done_law.ensures c.reads_law.ensures g.D.Disk
