use Rattle.run_worker.proofs.Behind.{acts_tell, gone_tells}
use Rattle.run_worker.proofs.laws.acting_law.Goals as goal

pub returns-clause-acts : goal.returns-clause-acts
returns-clause-acts c = acts_tell

pub returns-clause-gone : goal.returns-clause-gone
returns-clause-gone c = gone_tells
