use Rattle.disc_process.specs.Later.{IsLaterDisc}
use Rattle.disc_lock.specs.Locks.{held_disc}
use Rattle.control_point.proofs.drawing.draw_some.Given as goal

abbrev pub invariant-loop : goal.invariant-loop
invariant-loop g l = IsLaterDisc g.J.Run.opening (held_disc l.fn.disc) (held_disc l.disc)
