-- The live law of the node.
use Rattle.node_laws.proofs.Live.{node_live_law}
use Rattle.node_laws.proofs.live_law.Goals as goal

pub returns : goal.returns
returns c = node_live_law
