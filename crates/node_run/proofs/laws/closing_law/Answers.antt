use Rattle.node_run.proofs.Ends.{closing_law}
use Rattle.node_run.proofs.laws.closing_law.Goals as goal

pub returns : goal.returns
returns g c = closing_law g.D.Disk c.ended_law.ensures c.seat_tokens_law.ensures c.told_law.ensures.told c.told_law.ensures.within c.told_law.ensures.records
