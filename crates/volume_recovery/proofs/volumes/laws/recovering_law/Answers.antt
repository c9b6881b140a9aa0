use Rattle.volume_recovery.proofs.VolumeStanding.{recovering}
use Rattle.volume_recovery.proofs.volumes.laws.recovering_law.Goals as goal

pub returns : goal.returns
returns c = λ config images left list other map valid node is. recovering config images left list map valid node c.volume_images_law.ensures other is
