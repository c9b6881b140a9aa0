use Rattle.run_standing.proofs.Telling.{not_run_telling_law, telling_law}
use Rattle.run_standing.proofs.laws.telling_law.Goals as goal

pub returns-clause-ran : goal.returns-clause-ran
returns-clause-ran g c = telling_law g.D.Disk

pub returns-clause-not_run : goal.returns-clause-not_run
returns-clause-not_run g c = not_run_telling_law g.D.Disk
