use Rattle.tmf_cli.proofs.CountedLines.{counts_law}
use Rattle.tmf_cli.proofs.laws.counts_law.Goals as goal

pub returns : goal.returns
returns g c = counts_law g.D.Disk.held g.D.Disk.faults c.args.config.now
