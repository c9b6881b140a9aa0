-- The law of whole archives of the node.
use Rattle.node_laws.proofs.Wholes.{node_whole_law}
use Rattle.node_laws.proofs.whole_law.Goals as goal

pub returns : goal.returns
returns c = node_whole_law
