use Rattle.volume_recovery.proofs.VolumeSettled.{lowered}
use Rattle.volume_recovery.proofs.volumes.laws.lowered_law.Goals as goal

pub returns : goal.returns
returns c = lowered
