-- The recovery law of the node.
use Rattle.node_laws.proofs.Recoveries.{node_recovery_law}
use Rattle.node_laws.proofs.recovery_law.Goals as goal

pub returns : goal.returns
returns c = node_recovery_law
