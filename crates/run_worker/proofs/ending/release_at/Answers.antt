use Rattle.std.proofs.Common.{◌∙◌}
use Rattle.disc_lock.specs.Locks.{held_disc}
use Rattle.run_worker.proofs.Leaving.{left_here}
use Rattle.run_worker.proofs.ending.release_at.Goals as goal

pub returns-clause-left : goal.returns-clause-left
returns-clause-left g c = left_here (held_disc c.lock.result).part c.args.number c.args.tx.now.txn c.release.new.tx.txn (c.lock.ensures.number ∙ c.disc_of.ensures) c.release.ensures.own
