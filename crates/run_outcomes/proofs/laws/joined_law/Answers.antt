use Rattle.run_outcomes.proofs.Joined.{joined_law, none_law}
use Rattle.run_outcomes.proofs.laws.joined_law.Goals as goal

pub returns-clause-joined : goal.returns-clause-joined
returns-clause-joined g c = joined_law g.D.Disk

pub returns-clause-none : goal.returns-clause-none
returns-clause-none g c = none_law c.events_law.ensures g.D.Disk
