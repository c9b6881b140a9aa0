-- The alone law of the node.
use Rattle.node_laws.proofs.Holders.{node_alone_law}
use Rattle.node_laws.proofs.alone_law.Goals as goal

pub returns : goal.returns
returns c = node_alone_law
