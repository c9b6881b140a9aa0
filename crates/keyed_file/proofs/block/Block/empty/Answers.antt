use Rattle.std.proofs.Common.{arith}
use Rattle.keyed_file.proofs.BlockCalls.{empty_block}
use Rattle.keyed_file.proofs.block.Block.empty.Goals as goal

pub invariant_of-result : goal.invariant_of-result
invariant_of-result c = (omega (arith, c.in-Ok.ensures.exact, c.from.ensures), empty_block c.args.file c.args.number c.in-Ok.records.items c.ranges.file.fits c.ranges.number.fits c.in-Ok.ensures.items)

pub returns-in-Ok-clause-valid : goal.returns-in-Ok-clause-valid
returns-in-Ok-clause-valid c = empty_block c.args.file c.args.number c.in-Ok.records.items c.ranges.file.fits c.ranges.number.fits c.in-Ok.ensures.items
