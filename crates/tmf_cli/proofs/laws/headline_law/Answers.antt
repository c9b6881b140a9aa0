use Rattle.tmf_cli.proofs.Headlines.{call_headline}
use Rattle.tmf_cli.proofs.laws.headline_law.Goals as goal

pub returns : goal.returns
returns g c = call_headline g.D.Disk.held g.D.Disk.faults c.args.config.now
