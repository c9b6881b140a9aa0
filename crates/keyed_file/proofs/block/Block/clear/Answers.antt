use Rattle.std.proofs.Common.{arith}
use Rattle.keyed_file.proofs.BlockCalls.{empty_block}
use Rattle.keyed_file.proofs.block.Block.clear.Goals as goal

pub invariant_of-self : goal.invariant_of-self
invariant_of-self c = (omega (arith, c.clear.ensures.capacity, c.self.invariant.0), empty_block c.args.file c.args.number c.clear.new.self.items c.ranges.file.fits c.ranges.number.fits c.clear.ensures.items)

pub returns-clause-valid : goal.returns-clause-valid
returns-clause-valid c = empty_block c.args.file c.args.number c.clear.new.self.items c.ranges.file.fits c.ranges.number.fits c.clear.ensures.items
