use Rattle.trail_files.proofs.Contents.{holds_split, holds_within}
use Rattle.trail_files.proofs.trail.Trail.in_files.Goals as goal

pub returns-clause-split : goal.returns-clause-split
returns-clause-split g c = λ trail content file is told. holds_split g.D.Disk g.R.Spelled.format trail content is file told

pub returns-clause-within : goal.returns-clause-within
returns-clause-within g c = λ trail content is told. holds_within g.D.Disk g.R.Spelled.format trail content is told
