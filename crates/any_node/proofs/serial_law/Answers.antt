use Rattle.any_node.specs.Numbered.{layout}
use Rattle.any_node.proofs.Laws.{serial_law}
use Rattle.any_node.proofs.serial_law.Goals as goal

pub returns : goal.returns
returns c = λ n. serial_law (layout n)
