use Rattle.keyed_file.proofs.BlockCalls.{at_no_home}
use Rattle.keyed_file.proofs.block.Block.refill.Goals as goal

pub returns-clause-only : goal.returns-clause-only
returns-clause-only c = λ block is spelled. c.read_again.ensures.only block is (at_no_home block) spelled
