use Rattle.any_node.specs.Numbered.{layout}
use Rattle.any_node.proofs.Laws.{rollforward_law}
use Rattle.any_node.proofs.rollforward_law.Goals as goal

pub returns : goal.returns
returns c = λ n. rollforward_law (layout n)
