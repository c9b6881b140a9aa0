use Rattle.trail_files.proofs.Laws.{resting}
use Rattle.trail_files.proofs.Contents.{stands_image, stands_rests, stands_spells}
use Rattle.trail_files.proofs.trail.Trail.every_image.Goals as goal

pub returns-clause-resting : goal.returns-clause-resting
returns-clause-resting g c = λ rules held image records is leaves. resting (g.R.Spelled.format rules) held image records is leaves

pub returns-clause-images : goal.returns-clause-images
returns-clause-images g c = λ trail content image is told leaves ends ends'. stands_image g.D.Disk.held g.R.Spelled.format g.met.R.Spelled.begins trail content (is.told told) image leaves ends ends'

pub returns-clause-at_rest : goal.returns-clause-at_rest
returns-clause-at_rest g c = λ trail content records is told rest ends. stands_rests g.D.Disk.held g.R.Spelled.format g.met.R.Spelled.begins trail content (is.told told) records rest ends

pub returns-clause-now : goal.returns-clause-now
returns-clause-now g c = λ trail content is told none ends. stands_spells g.D.Disk.held g.R.Spelled.format g.met.R.Spelled.begins trail content (is.told told) none ends
