use Rattle.volume_recovery.proofs.VolumeStanding.{recovered}
use Rattle.volume_recovery.proofs.volumes.laws.recovered_law.Goals as goal

pub returns : goal.returns
returns c = λ config images left list map valid one node is. recovered config images left list map valid node one is
