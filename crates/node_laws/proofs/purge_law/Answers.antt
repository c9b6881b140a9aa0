-- The purge law of the node.
use Rattle.node_laws.proofs.Purges.{node_purge_law}
use Rattle.node_laws.proofs.purge_law.Goals as goal

pub returns : goal.returns
returns c = node_purge_law
