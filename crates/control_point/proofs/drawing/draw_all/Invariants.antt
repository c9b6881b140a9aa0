use Rattle.std.proofs.Common.{◌-◌, ◌≤◌}
use Rattle.disc_process.specs.Later.{IsLaterDisc}
use Rattle.disc_lock.specs.Locks.{held_disc}
use Rattle.control_point.proofs.Clean.{AreDrawnTo}
use Rattle.control_point.proofs.drawing.draw_all.Given as goal

abbrev pub invariant-loop-block : goal.invariant-loop-block
invariant-loop-block g l = record {
  later : IsLaterDisc g.J.Run.opening (held_disc l.fn.disc) (held_disc l.disc);
  drawn : AreDrawnTo (held_disc l.disc).blocks l.reached;
  within : l.reached ≤ 65536;
}

abbrev pub decreases-loop-block : goal.decreases-loop-block
decreases-loop-block g l = 65536 - l.reached
