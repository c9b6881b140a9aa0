use Rattle.run_outcomes.proofs.Running.{returned_law}
use Rattle.run_outcomes.proofs.laws.returned_law.Goals as goal

pub returns : goal.returns
returns g c = returned_law g.D.Disk
