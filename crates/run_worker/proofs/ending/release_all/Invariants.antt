use Rattle.std.proofs.Common.{◌≡◌, length}
use Rattle.run_worker.proofs.Leaving.{HasLeftFirst}
use Rattle.run_worker.proofs.ending.release_all.Given as goal

abbrev pub invariant-loop-index : goal.invariant-loop-index
invariant-loop-index g l = record {
  all : l.count ≡ length l.fn.tx.txn.discs;
  come : HasLeftFirst g.J.Run.opening l.fn.tx.txn l.tx.txn l.index;
  place : l.tx.place ≡ l.fn.tx.place;
}
