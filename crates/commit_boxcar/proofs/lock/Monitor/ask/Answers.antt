use Rattle.std.proofs.Common.{subst}
use Rattle.commit_boxcar.specs.Requests.{IsAsFar}
use Rattle.commit_boxcar.proofs.lock.Monitor.ask.Goals as goal

pub returns-in-Ok-clause-asked : goal.returns-in-Ok-clause-asked
returns-in-Ok-clause-asked g c = subst (λ r. IsAsFar r c.in-Ok.receipt) c.new.ensures c.in-Ok.ensures.asked
