use Rattle.block_cache.proofs.Opening.{opened_holds, resting_image}
use Rattle.block_cache.proofs.blocks.Blocks.at_rest.Goals as goal

pub returns-clause-holds : goal.returns-clause-holds
returns-clause-holds g c = λ view contents spells rests settled slot empty. opened_holds g.D.Disk.held view contents c.spelling_length_law.ensures.block (c.spelling_length_law.ensures.label view.label spells.valid) spells rests settled slot empty

pub returns-clause-image : goal.returns-clause-image
returns-clause-image g c = resting_image c.spelling_length_law.ensures.block c.spelling_length_law.ensures.label
