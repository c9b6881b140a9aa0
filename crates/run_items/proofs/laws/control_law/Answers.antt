use Rattle.run_items.proofs.Telling.{control_joins, control_told}
use Rattle.run_items.proofs.laws.control_law.Goals as goal

pub returns-clause-told : goal.returns-clause-told
returns-clause-told g c = control_told g.D.Disk

pub returns-clause-joins : goal.returns-clause-joins
returns-clause-joins g c = control_joins c.next_law.ensures.none g.D.Disk c.joined_law.ensures.joined
