use Rattle.single_law.proofs.Rows.{row_law}
use Rattle.single_law.proofs.laws.row_law.Goals as goal

pub returns : goal.returns
returns g c = row_law c.crash_law.ensures c.done_law.ensures c.reads_law.ensures g.D.Disk
