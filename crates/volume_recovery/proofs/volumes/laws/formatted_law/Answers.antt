use Rattle.volume_recovery.proofs.VolumeSettled.{formatted}
use Rattle.volume_recovery.proofs.volumes.laws.formatted_law.Goals as goal

pub returns : goal.returns
returns c = λ config images is. formatted config images is
