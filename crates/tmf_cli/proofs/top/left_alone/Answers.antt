use Rattle.tmf_cli.proofs.Openings.{bay-same}
use Rattle.tmf_cli.proofs.top.left_alone.Goals as goal

pub returns : goal.returns
returns g c = bay-same g.D.Disk g.met.D.Disk.same_on g.met.D.Disk.same_itself c.args.bay.now
