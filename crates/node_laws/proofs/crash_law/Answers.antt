-- The crash law of the node.
use Rattle.node_laws.proofs.Crash.{node_crash_law}
use Rattle.node_laws.proofs.crash_law.Goals as goal

pub returns : goal.returns
returns c = node_crash_law
