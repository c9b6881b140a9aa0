use Rattle.single_law.proofs.One.{one_end_law}
use Rattle.single_law.proofs.laws.one_end_law.Goals as goal

pub returns : goal.returns
returns c = one_end_law
