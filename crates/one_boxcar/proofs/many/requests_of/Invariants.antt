use Rattle.commit_boxcar.specs.FirstRun.{HasDecided}
use Rattle.one_boxcar.proofs.many.requests_of.Given as goal

abbrev pub invariant-loop-done : goal.invariant-loop-done
invariant-loop-done g l = HasDecided g.J.Run.opening l.worker l.done l.seat
