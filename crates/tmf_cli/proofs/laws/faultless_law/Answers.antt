use Rattle.tmf_cli.proofs.FaultlessLines.{faultless}
use Rattle.tmf_cli.proofs.laws.faultless_law.Goals as goal

pub returns : goal.returns
returns g c = faultless g.D.Disk.held g.D.Disk.faults c.args.config.now
