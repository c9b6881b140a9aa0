use Rattle.run_outcomes.proofs.Busy.{told_law}
use Rattle.run_outcomes.proofs.Records.{records_law}
use Rattle.run_outcomes.proofs.Telling.{each_law, no_other_law, within_law}
use Rattle.run_outcomes.proofs.laws.told_law.Goals as goal

pub returns-clause-each : goal.returns-clause-each
returns-clause-each g c = each_law g.D.Disk

pub returns-clause-no_other : goal.returns-clause-no_other
returns-clause-no_other g c = no_other_law g.D.Disk

pub returns-clause-within : goal.returns-clause-within
returns-clause-within g c = within_law g.D.Disk

pub returns-clause-told : goal.returns-clause-told
returns-clause-told g c = told_law c.events_law.ensures c.holder_law.ensures g.D.Disk

pub returns-clause-records : goal.returns-clause-records
returns-clause-records g c = records_law c.events_law.ensures g.D.Disk
