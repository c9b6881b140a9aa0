use Rattle.any_node.specs.Numbered.{layout}
use Rattle.any_node.proofs.Laws.{purge_law}
use Rattle.any_node.proofs.purge_law.Goals as goal

pub returns : goal.returns
returns c = λ n. purge_law (layout n)
