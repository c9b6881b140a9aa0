use Rattle.any_node.specs.Numbered.{layout}
use Rattle.any_node.proofs.Laws.{live_law}
use Rattle.any_node.proofs.live_law.Goals as goal

pub returns : goal.returns
returns c = λ n. live_law (layout n)
