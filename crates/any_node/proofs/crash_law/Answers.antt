use Rattle.any_node.specs.Numbered.{layout}
use Rattle.any_node.proofs.Laws.{crash_law}
use Rattle.any_node.proofs.crash_law.Goals as goal

pub returns : goal.returns
returns c = λ n. crash_law (layout n)
