use Rattle.disc_lock.specs.Seats.{HasSeenMore}
use Rattle.control_point.proofs.lowering.draw_ahead.Given as goal

abbrev pub invariant-loop : goal.invariant-loop
invariant-loop g l = HasSeenMore g.J.Run.opening l.fn.seat l.seat
