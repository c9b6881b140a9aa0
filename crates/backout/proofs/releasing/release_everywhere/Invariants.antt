use Rattle.std.proofs.Common.{◌≡◌, None, length}
use Rattle.backout.proofs.Leaving.{HasLeftFirst}
use Rattle.backout.proofs.releasing.release_everywhere.Given as goal

abbrev pub invariant-loop-index : goal.invariant-loop-index
invariant-loop-index g l = record {
  all : l.count ≡ length l.fn.tx.txn.discs;
  come : HasLeftFirst g.J.Run.opening l.fn.tx.txn l.tx.txn l.index;
  place : l.tx.place ≡ None;
}
