-- The present law of the node.
use Rattle.node_laws.proofs.Live.{node_present_law}
use Rattle.node_laws.proofs.present_law.Goals as goal

pub returns : goal.returns
returns c = node_present_law
