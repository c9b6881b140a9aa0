use Rattle.volume_restore.proofs.Spelled.{fine-spells, volume_fine}
use Rattle.volume_restore.proofs.laws.spelled_volume_law.Goals as goal

pub returns-clause-fine : goal.returns-clause-fine
returns-clause-fine c = volume_fine c.spelling_length_law.ensures.label

pub returns-clause-spelled : goal.returns-clause-spelled
returns-clause-spelled c = fine-spells
