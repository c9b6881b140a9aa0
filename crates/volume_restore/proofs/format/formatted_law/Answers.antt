use Rattle.volume_restore.proofs.Empties.{empty-based, empty-stands}
use Rattle.volume_restore.proofs.format.formatted_law.Goals as goal

pub returns-clause-base : goal.returns-clause-base
returns-clause-base c = λ config volume image spells. empty-based config volume image spells

pub returns-clause-stands : goal.returns-clause-stands
returns-clause-stands c = λ config volume list. empty-stands config volume list
