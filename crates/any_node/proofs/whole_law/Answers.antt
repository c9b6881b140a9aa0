use Rattle.any_node.specs.Numbered.{layout}
use Rattle.any_node.proofs.Rows.{whole_law}
use Rattle.any_node.proofs.whole_law.Goals as goal

pub returns : goal.returns
returns c = λ n. whole_law (layout n)
