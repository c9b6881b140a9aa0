use Rattle.std.proofs.Common.{◌≡◌, length}
use Rattle.phase_one.proofs.Flushing.{HasCome}
use Rattle.phase_one.proofs.phase.run.Given as goal

abbrev pub invariant-loop-index : goal.invariant-loop-index
invariant-loop-index g l = record {
  all : l.count ≡ length l.fn.tx.discs;
  come : HasCome g.J.Run.opening l.fn.tx l.ending l.index;
}
