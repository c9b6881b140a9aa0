use Rattle.std.proofs.Common.{◌≡◌, length}
use Rattle.backout.proofs.Undos.{HasUndoneFirst}
use Rattle.backout.proofs.undoing.undo_everywhere.Given as goal

abbrev pub invariant-loop-index : goal.invariant-loop-index
invariant-loop-index g l = record {
  all : l.count ≡ length l.fn.tx.discs;
  come : HasUndoneFirst g.J.Run.opening l.fn.tx l.tx l.index;
}
