use Rattle.std.proofs.Common.{sym}
use Rattle.keyed_file.proofs.BlockCalls.{not_bad}
use Rattle.keyed_file.proofs.block.Block.read_again.Goals as goal

pub returns-in-Some-clause-only : goal.returns-in-Some-clause-only
returns-in-Some-clause-only c = λ block is at_home spelled. absurd (not_bad c.args.home c.args.bytes.now block _ is at_home spelled (sym c.in-Some.ensures))
