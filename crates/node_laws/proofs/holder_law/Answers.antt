-- The holder law of the node.
use Rattle.node_laws.proofs.Holders.{node_holder_law}
use Rattle.node_laws.proofs.holder_law.Goals as goal

pub returns : goal.returns
returns c = node_holder_law
