-- The reads law of the node.
use Rattle.node_laws.proofs.Yields.{node_reads_law}
use Rattle.node_laws.proofs.reads_law.Goals as goal

pub returns : goal.returns
returns c = node_reads_law
