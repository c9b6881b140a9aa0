-- The done law of the node.
use Rattle.node_laws.proofs.Yields.{node_done_law}
use Rattle.node_laws.proofs.done_law.Goals as goal

pub returns : goal.returns
returns c = node_done_law
