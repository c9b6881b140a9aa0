use Rattle.tmf_cli.proofs.OneOutputs.{one_output}
use Rattle.tmf_cli.proofs.laws.one_output_law.Goals as goal

pub returns : goal.returns
returns g c = one_output g.D.Disk.held g.D.Disk.faults c.args.config.now c.one_run_law.ensures g.met.D.Disk.sound c.requires.valid
