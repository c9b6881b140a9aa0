use Rattle.run_outcomes.proofs.Seen.{seen_law}
use Rattle.run_outcomes.proofs.laws.seen_law.Goals as goal

pub returns : goal.returns
returns c = seen_law
