use Rattle.trail_files.proofs.Contents.{holds_writable}
use Rattle.trail_files.proofs.trail.Trail.writes_on.Goals as goal

pub returns : goal.returns
returns g c = λ trail content is. holds_writable g.D.Disk g.R.Spelled.format trail content is
