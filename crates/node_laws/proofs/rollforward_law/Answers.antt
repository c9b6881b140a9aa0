-- The rollforward law of the node.
use Rattle.node_laws.proofs.Rolls.{node_rollforward_law}
use Rattle.node_laws.proofs.rollforward_law.Goals as goal

pub returns : goal.returns
returns c = node_rollforward_law
