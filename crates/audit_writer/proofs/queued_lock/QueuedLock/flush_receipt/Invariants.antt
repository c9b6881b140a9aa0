use Rattle.std.proofs.Common.{◌≡◌}
use Rattle.chronicle.specs.Seats.{HasGrown, HasLearned}
use Rattle.node_machine.specs.Node.{node}
use Rattle.audit_writer.proofs.queued_lock.QueuedLock.flush_receipt.Given as goal

abbrev pub invariant-loop : goal.invariant-loop
invariant-loop g l = HasGrown l.fn.disc l.disc × HasLearned node g.J.Run.opening l.fn.disc l.disc × (l.receipt ≡ l.fn.receipt)
