use Rattle.block_cache.proofs.Attaching.{fresh_blocks}
use Rattle.block_cache.proofs.blocks.Blocks.open.Goals as goal

pub invariant_of-result : goal.invariant_of-result
invariant_of-result g c = (c.in-Ok-vec.ensures.len, fresh_blocks g.D.Disk.tells g.D.Disk.held c.args.device c.in-Ok-new.device.value c.args.label c.args.slot c.in-Ok.cache c.in-Ok-new.ensures.ok c.requires.label c.requires.slot c.in-Ok.ensures.valid c.in-Ok.ensures.empty c.requires.there)

pub returns-in-Ok-new-clause-valid : goal.returns-in-Ok-new-clause-valid
returns-in-Ok-new-clause-valid g c = fresh_blocks g.D.Disk.tells g.D.Disk.held c.args.device c.in-Ok-new.device.value c.args.label c.args.slot c.in-Ok.cache c.in-Ok-new.ensures.ok c.requires.label c.requires.slot c.in-Ok.ensures.valid c.in-Ok.ensures.empty c.requires.there
