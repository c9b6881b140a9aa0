-- The serial law of the node.
use Rattle.node_laws.proofs.Serials.{node_serial_law}
use Rattle.node_laws.proofs.serial_law.Goals as goal

pub returns : goal.returns
returns c = node_serial_law
