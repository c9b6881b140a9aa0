-- The events law of the node.
use Rattle.node_laws.proofs.Histories.{node_events_law}
use Rattle.node_laws.proofs.events_law.Goals as goal

pub returns : goal.returns
returns c = node_events_law
