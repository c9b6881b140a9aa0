-- The receipt law of the node.
use Rattle.node_laws.proofs.Receipts.{node_receipt_law}
use Rattle.node_laws.proofs.receipt_law.Goals as goal

pub returns : goal.returns
returns c = node_receipt_law
