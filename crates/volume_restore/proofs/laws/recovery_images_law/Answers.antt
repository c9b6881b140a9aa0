use Rattle.volume_restore.proofs.ImageBases.{way-image, whole-image}
use Rattle.volume_restore.proofs.laws.recovery_images_law.Goals as goal

pub returns-clause-way : goal.returns-clause-way
returns-clause-way c = λ config volume low was audit list image valid declared. way-image config volume low was audit list image valid declared.above

pub returns-clause-whole : goal.returns-clause-whole
returns-clause-whole c = λ config volume low was audit list image valid declared. whole-image config volume low was audit list image valid declared.above
