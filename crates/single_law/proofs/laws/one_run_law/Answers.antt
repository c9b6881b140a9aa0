use Rattle.single_law.proofs.One.{one_run_law}
use Rattle.single_law.proofs.laws.one_run_law.Goals as goal

pub returns : goal.returns
returns c = one_run_law
