use Rattle.volume_restore.proofs.Recovering.{block_recovered}
use Rattle.volume_restore.proofs.laws.restored_law.Goals as goal

pub returns : goal.returns
returns c = block_recovered
