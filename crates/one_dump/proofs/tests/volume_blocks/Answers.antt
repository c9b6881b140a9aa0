use Rattle.std.proofs.Common.{sym, subst}
use Rattle.tmf_model.specs.Config.{IsValidConfig}
use Rattle.one_dump.proofs.OneDump.{one_valid}
use Rattle.one_dump.proofs.tests.volume_blocks.Goals as goal

pub attach-requires-clause-config : goal.attach-requires-clause-config
attach-requires-clause-config g c = subst IsValidConfig (sym c.requires) one_valid
