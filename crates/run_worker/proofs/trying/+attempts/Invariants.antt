use Rattle.std.proofs.Common.{◌-◌}
use Rattle.run_worker.proofs.trying.+attempts.Given as goal

abbrev pub decreases-attempts : goal.decreases-attempts
decreases-attempts g l = l.transaction.now.attempts - l.tx.attempt
