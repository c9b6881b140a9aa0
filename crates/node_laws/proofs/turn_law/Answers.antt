-- The turn law of the node.
use Rattle.node_laws.proofs.Live.{node_turn_law}
use Rattle.node_laws.proofs.turn_law.Goals as goal

pub returns : goal.returns
returns c = node_turn_law
