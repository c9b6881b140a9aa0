use Rattle.std.proofs.Common.{ap, refl, arith}
use Rattle.node_machine.specs.declared.event.Event.TheVariants.{OfTrail}
use Rattle.node_machine.specs.declared.event.TrailEvent.TheVariants.{Failed}
use Rattle.node_machine.specs.Opening.{trail_part}
use Rattle.audit_writer.proofs.Joining.{rose_more}
use Rattle.audit_writer.proofs.Locks.{newly_then}
use Rattle.audit_writer.proofs.Tying.{drains_then, drains_writes, end_same, end_then, missed_same, told_drains, up_drains}
use Rattle.audit_writer.proofs.Written.{stopped_then, written_then}
use Rattle.audit_writer.proofs.queued.QueuedWriter.land_up_to.Goals as goal

pub flush_to-requires : goal.flush_to-requires
flush_to-requires g c = (omega arith, up_drains g.D.Disk c.args.self.now.writer c.flush_queue.new.self.writer c.flush_queue.ensures.kept.0 c.args.disc c.args.position c.requires.has)

pub returns-in-Err-clause-failed : goal.returns-in-Err-clause-failed
returns-in-Err-clause-failed g c =
    (refl, newly_then (trail_part g.row.N) (OfTrail (Failed c.args.by)) c.args.caller.now c.flush_queue.new.caller c.flush_to.new.caller c.flush_queue.ensures.grown c.in-Err.ensures.failed)

pub returns-in-Err-clause-kept : goal.returns-in-Err-clause-kept
returns-in-Err-clause-kept g c =
    let a = c.args.self.now in
    let b = c.flush_queue.new.self in
    let e = c.flush_to.new.self in
    let kind = g.D.Disk in (
      drains_then kind (λ a. g.met.D.Disk.same_itself a) (λ a b d p q. g.met.D.Disk.same_on a b d p q) a.writer b.writer e.writer c.flush_queue.ensures.kept.0 (drains_writes b.writer e.writer kind c.flush_to.ensures.kept),
      end_then a.end b.end e.end c.flush_queue.ensures.kept.1 (end_same b.end e.end c.flush_to.ensures.end),
    )

pub returns-in_default-clause-events : goal.returns-in_default-clause-events
returns-in_default-clause-events g c = (refl, c.in_default.ensures.events, c.in_default.ensures.cause.failed refl)

pub returns-in-Err-clause-events : goal.returns-in-Err-clause-events
returns-in-Err-clause-events g c =
    let a = c.args.self.now.writer in
    let b = c.flush_queue.new.self.writer in
    let e = c.flush_to.new.self.writer in
    let faults = g.D.Disk.faults in (
      refl,
      stopped_then c.args.by a b e c.in-Ok.ensures.events c.in-Err.ensures.events,
      rose_more (faults a.trail.device) (faults b.trail.device) (faults e.trail.device) c.flush_queue.ensures.cause.later c.flush_to.ensures.cause.later (c.in-Err.ensures.cause.failed refl),
    )

pub returns-in-Ok-flush_to-clause-events : goal.returns-in-Ok-flush_to-clause-events
returns-in-Ok-flush_to-clause-events g c = written_then c.args.self.now.writer c.flush_queue.new.self.writer c.flush_to.new.self.writer c.in-Ok.ensures.events c.in-Ok-flush_to.ensures.events

pub returns-in-Ok-flush_to-clause-told : goal.returns-in-Ok-flush_to-clause-told
returns-in-Ok-flush_to-clause-told g c = λ yes.
    let b = c.flush_queue.new.self in
    let e = c.flush_to.new.self in
    told_drains g.D.Disk b e (drains_writes b.writer e.writer g.D.Disk c.flush_to.ensures.kept) (ap (λ x. x.pass.told) c.flush_to.ensures.end) (c.in-Ok.ensures.told yes)

pub returns-in-Ok-flush_to-clause-popped : goal.returns-in-Ok-flush_to-clause-popped
returns-in-Ok-flush_to-clause-popped g c = missed_same c.args.self.now.end c.flush_queue.new.self.end c.flush_to.new.self.end c.flush_to.ensures.end c.in-Ok.ensures.popped
