use Rattle.std.proofs.Common.{refl}
use Rattle.node_machine.specs.declared.event.Event.TheVariants.{OfTrail}
use Rattle.node_machine.specs.declared.event.TrailEvent.TheVariants.{Failed}
use Rattle.node_machine.specs.Opening.{trail_part}
use Rattle.audit_writer.proofs.Locks.{learned_then, newly_then}
use Rattle.audit_writer.proofs.queued_lock.QueuedLock.flush.Goals as goal

pub returns-in-Err-clause-failed : goal.returns-in-Err-clause-failed
returns-in-Err-clause-failed g c = (refl, newly_then (trail_part g.row.N) (OfTrail (Failed c.args.by)) c.args.disc.now c.flush.new.disc c.flush_receipt.new.disc c.flush.ensures.grown c.in-Err.ensures.failed)

pub returns-in-Ok-clause-durable : goal.returns-in-Ok-clause-durable
returns-in-Ok-clause-durable g c = λ ne. c.flush_receipt.ensures.learned.knows _ (c.in_ok-flush.ensures.durable ne)

pub returns-in-Ok-clause-learned : goal.returns-in-Ok-clause-learned
returns-in-Ok-clause-learned g c = learned_then g.J.Run.opening c.args.disc.now c.flush.new.disc c.flush_receipt.new.disc c.flush.ensures.learned c.flush_receipt.ensures.learned

pub returns-in-Err-clause-learned : goal.returns-in-Err-clause-learned
returns-in-Err-clause-learned g c = learned_then g.J.Run.opening c.args.disc.now c.flush.new.disc c.flush_receipt.new.disc c.flush.ensures.learned c.flush_receipt.ensures.learned
