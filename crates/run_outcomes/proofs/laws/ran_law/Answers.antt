use Rattle.run_outcomes.proofs.Running.{ran_law}
use Rattle.run_outcomes.proofs.laws.ran_law.Goals as goal

pub returns : goal.returns
returns g c = ran_law g.D.Disk
