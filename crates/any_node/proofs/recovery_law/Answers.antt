use Rattle.any_node.specs.Numbered.{layout}
use Rattle.any_node.proofs.Recovery.{recovery_law}
use Rattle.any_node.proofs.recovery_law.Goals as goal

pub returns : goal.returns
returns c = λ n. recovery_law (layout n)
