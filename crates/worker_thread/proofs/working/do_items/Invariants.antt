use Rattle.std.proofs.Common.{◌≡◌, Some}
use Rattle.tmf_model.specs.Commits.{numbered}
use Rattle.worker_thread.proofs.Loops.{IsSoFar}
use Rattle.worker_thread.proofs.working.do_items.Given as goal

abbrev pub invariant-loop-item : goal.invariant-loop-item
invariant-loop-item g l = record {
  number_is : l.hand.number ≡ l.fn.hand.number;
  ordinal_is : l.ordinal ≡ l.item-index;
  parts_are : l.hand.worker.share.parts ≡ l.fn.hand.worker.share.parts;
  items_are : numbered l.work.phase.now.workers l.fn.hand.number ≡ Some l.items;
  so_far : IsSoFar g.D.Disk g.J.NodeRun.found l.work.phase.now g.J.DeviceRun.devices l.fn.hand.number l.items l.item-index l.hand.worker.seat l.hand.worker.share l.hand.worker.outcomes l.hand.reads l.hand.ended;
}
