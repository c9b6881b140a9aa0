use Rattle.block_cache.proofs.Resting.{resting_base, resting_dump}
use Rattle.block_cache.proofs.laws.resting_law.Goals as goal

pub returns-clause-volume : goal.returns-clause-volume
returns-clause-volume c = resting_base c.spelling_length_law.ensures.block c.spelling_length_law.ensures.label

pub returns-clause-dump : goal.returns-clause-dump
returns-clause-dump c = resting_dump
