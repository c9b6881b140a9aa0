use Rattle.run_items.proofs.DumpTelling.{dump_joins, dump_told}
use Rattle.run_items.proofs.laws.dump_law.Goals as goal

pub returns-clause-told : goal.returns-clause-told
returns-clause-told g c = dump_told g.D.Disk

pub returns-clause-joins : goal.returns-clause-joins
returns-clause-joins g c = dump_joins c.next_law.ensures.none g.D.Disk c.joined_law.ensures.joined
