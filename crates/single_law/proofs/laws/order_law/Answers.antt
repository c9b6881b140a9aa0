use Rattle.single_law.proofs.Rows.{order_law}
use Rattle.single_law.proofs.laws.order_law.Goals as goal

pub returns : goal.returns
returns c = order_law
