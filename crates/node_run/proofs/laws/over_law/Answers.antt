use Rattle.node_run.proofs.Overs.{closed_law, over_law}
use Rattle.node_run.proofs.laws.over_law.Goals as goal

pub returns-clause-over : goal.returns-clause-over
returns-clause-over g c = over_law g.D.Disk g.met.D.Disk.same_itself g.met.D.Disk.same_on c.found_law.ensures.over c.ran_law.ensures c.reread_law.ensures.ran c.returned_law.ensures

pub returns-clause-closed : goal.returns-clause-closed
returns-clause-closed g c = closed_law g.D.Disk g.met.D.Disk.same_itself g.met.D.Disk.same_on
