use Rattle.std.proofs.Common.{sym, subst}
use Rattle.tmf_model.specs.Config.{IsValidConfig}
use Rattle.one_dump.proofs.OneDump.{one_valid}
use Rattle.one_dump.proofs.tests.volume_device.Goals as goal

pub of_volume-requires-clause-config : goal.of_volume-requires-clause-config
of_volume-requires-clause-config c = subst IsValidConfig (sym c.requires) one_valid
