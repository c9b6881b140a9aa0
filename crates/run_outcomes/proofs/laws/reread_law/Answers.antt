use Rattle.run_outcomes.proofs.Reread.{not_run_reread_law, reread_law}
use Rattle.run_outcomes.proofs.laws.reread_law.Goals as goal

pub returns-clause-ran : goal.returns-clause-ran
returns-clause-ran g c = reread_law g.D.Disk

pub returns-clause-not_run : goal.returns-clause-not_run
returns-clause-not_run g c = not_run_reread_law g.D.Disk
