use Rattle.volume_recovery.proofs.VolumeLosing.{lost-stands}
use Rattle.volume_recovery.proofs.volumes.laws.lost_law.Goals as goal

pub returns : goal.returns
returns c = λ config images left list map volume valid within node may. lost-stands config images left list map volume valid within node may
