use Rattle.tmf_cli.proofs.DeviceNames.{names-apart}
use Rattle.tmf_cli.proofs.laws.names_law.Goals as goal

pub returns : goal.returns
returns c = names-apart c.args.config.now c.requires.valid
