use Rattle.node_machine.specs.declared.event.Event.TheVariants.{OfTrail}
use Rattle.node_machine.specs.declared.event.TrailEvent.TheVariants.{Failed}
use Rattle.node_machine.specs.Opening.{trail_part}
use Rattle.audit_writer.proofs.Joining.{grown_then}
use Rattle.audit_writer.proofs.Locks.{learned_then, newly_then}
use Rattle.audit_writer.proofs.Tying.{drains_then, drains_writes, end_same, end_then, missed_same}
use Rattle.audit_writer.proofs.Written.{err_anyway, err_says, stopped_then, written_then}
use Rattle.audit_writer.proofs.queued.QueuedWriter.flush_up_to.Goals as goal

pub returns-in_err-flush_to-clause-failed : goal.returns-in_err-flush_to-clause-failed
returns-in_err-flush_to-clause-failed g c =
    err_anyway c.from_residual-in_err-flush_to.result (newly_then (trail_part g.row.N) (OfTrail (Failed c.args.by)) c.args.caller.now c.flush_queue.new.caller c.flush_to.new.caller c.flush_queue.ensures.grown c.in_err-flush_to.ensures.failed)

pub returns-in_err-flush_to-clause-learned : goal.returns-in_err-flush_to-clause-learned
returns-in_err-flush_to-clause-learned g c = learned_then g.J.Run.opening c.args.caller.now c.flush_queue.new.caller c.flush_to.new.caller c.flush_queue.ensures.learned c.flush_to.ensures.learned

pub returns-clause-learned : goal.returns-clause-learned
returns-clause-learned g c = learned_then g.J.Run.opening c.args.caller.now c.flush_queue.new.caller c.flush_to.new.caller c.flush_queue.ensures.learned c.flush_to.ensures.learned

pub returns-clause-grown : goal.returns-clause-grown
returns-clause-grown g c = grown_then c.args.caller.now c.flush_queue.new.caller c.flush_to.new.caller c.flush_queue.ensures.grown c.flush_to.ensures.grown

pub returns-in_err-empty-clause-events : goal.returns-in_err-empty-clause-events
returns-in_err-empty-clause-events g c = err_says _ _ _ c.from_residual.result c.from_residual.ensures.1 c.in_err-empty.ensures.events

pub returns-in_err-flush_to-clause-events : goal.returns-in_err-flush_to-clause-events
returns-in_err-flush_to-clause-events g c =
    err_says _ _ _ c.from_residual-in_err-flush_to.result c.from_residual-in_err-flush_to.ensures.1
    (stopped_then c.args.by c.args.self.now.writer c.flush_queue.new.self.writer c.flush_to.new.self.writer c.in_ok-empty.ensures.events c.in_err-flush_to.ensures.events)

pub returns-clause-events : goal.returns-clause-events
returns-clause-events g c = written_then c.args.self.now.writer c.flush_queue.new.self.writer c.flush_to.new.self.writer c.in_ok-empty.ensures.events c.in_ok-flush_to.ensures.events

pub returns-in_err-flush_to-clause-kept : goal.returns-in_err-flush_to-clause-kept
returns-in_err-flush_to-clause-kept g c =
    let a = c.args.self.now in
    let b = c.flush_queue.new.self in
    let e = c.flush_to.new.self in
    let kind = g.D.Disk in (
      drains_then kind (λ a. g.met.D.Disk.same_itself a) (λ a b d p q. g.met.D.Disk.same_on a b d p q) a.writer b.writer e.writer c.flush_queue.ensures.kept.0 (drains_writes b.writer e.writer kind c.flush_to.ensures.kept),
      end_then a.end b.end e.end c.flush_queue.ensures.kept.1 (end_same b.end e.end c.flush_to.ensures.end),
    )

pub returns-clause-kept : goal.returns-clause-kept
returns-clause-kept g c =
    let a = c.args.self.now in
    let b = c.flush_queue.new.self in
    let e = c.flush_to.new.self in
    let kind = g.D.Disk in (
      drains_then kind (λ a. g.met.D.Disk.same_itself a) (λ a b d p q. g.met.D.Disk.same_on a b d p q) a.writer b.writer e.writer c.flush_queue.ensures.kept.0 (drains_writes b.writer e.writer kind c.flush_to.ensures.kept),
      end_then a.end b.end e.end c.flush_queue.ensures.kept.1 (end_same b.end e.end c.flush_to.ensures.end),
    )

pub returns-clause-popped : goal.returns-clause-popped
returns-clause-popped g c = missed_same c.args.self.now.end c.flush_queue.new.self.end c.flush_to.new.self.end c.flush_to.ensures.end c.in_ok-empty.ensures.popped
