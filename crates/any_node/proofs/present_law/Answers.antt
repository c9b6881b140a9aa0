use Rattle.any_node.specs.Numbered.{layout}
use Rattle.any_node.proofs.Laws.{present_law}
use Rattle.any_node.proofs.present_law.Goals as goal

pub returns : goal.returns
returns c = λ n. present_law (layout n)
