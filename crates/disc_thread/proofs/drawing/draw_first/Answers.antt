use Rattle.disc_lock.specs.Locks.{held_disc}
use Rattle.disc_thread.proofs.Still.{disc_still}
use Rattle.disc_thread.proofs.drawing.draw_first.Goals as goal

pub returns-in_default-clause-disc : goal.returns-in_default-clause-disc
returns-in_default-clause-disc g c = disc_still g.J.Run.opening (held_disc c.args.disc.now)

pub returns-then-is_spent-clause-disc : goal.returns-then-is_spent-clause-disc
returns-then-is_spent-clause-disc g c = disc_still g.J.Run.opening (held_disc c.args.disc.now)
