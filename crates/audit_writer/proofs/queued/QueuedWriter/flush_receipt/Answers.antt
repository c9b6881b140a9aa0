use Rattle.std.proofs.Common.{subst}
use Rattle.node_machine.specs.declared.event.Event.TheVariants.{OfTrail}
use Rattle.node_machine.specs.declared.event.TrailEvent.TheVariants.{Failed}
use Rattle.node_machine.specs.Opening.{trail_part}
use Rattle.audit_writer.proofs.Locks.{learned_then, newly_then}
use Rattle.audit_writer.specs.Drains.{Drains}
use Rattle.audit_writer.specs.Writes.{HasStopped, HasWritten}
use Rattle.audit_writer.proofs.Tying.{drains_then, drains_writes, missed_from, missed_same}
use Rattle.audit_writer.proofs.Written.{err_anyway, err_says, stopped_then, written_then}
use Rattle.audit_writer.proofs.queued.QueuedWriter.flush_receipt.Goals as goal

pub returns-in_err-flush_to-clause-failed : goal.returns-in_err-flush_to-clause-failed
returns-in_err-flush_to-clause-failed g c =
    err_anyway c.from_residual-in_err-flush_to.result (newly_then (trail_part g.row.N) (OfTrail (Failed c.args.by)) c.args.caller.now c.flush_queue.new.caller c.flush_to.new.caller c.flush_queue.ensures.grown c.in_err-flush_to.ensures.failed)

pub returns-in_err-flush_to-clause-learned : goal.returns-in_err-flush_to-clause-learned
returns-in_err-flush_to-clause-learned g c = learned_then g.J.Run.opening c.args.caller.now c.flush_queue.new.caller c.flush_to.new.caller c.flush_queue.ensures.learned c.flush_to.ensures.learned

pub returns-clause-learned : goal.returns-clause-learned
returns-clause-learned g c = learned_then g.J.Run.opening c.args.caller.now c.flush_queue.new.caller c.flush_to.new.caller c.flush_queue.ensures.learned c.flush_to.ensures.learned

pub returns-in_err-empty-clause-events : goal.returns-in_err-empty-clause-events
returns-in_err-empty-clause-events g c =
    err_says _ _ _ c.from_residual.result c.from_residual.ensures.1 (subst (λ w. HasStopped c.args.by w c.flush_queue.new.self.writer) c.hear.ensures.writer c.in_err-empty.ensures.events)

pub returns-in_err-flush_to-clause-events : goal.returns-in_err-flush_to-clause-events
returns-in_err-flush_to-clause-events g c =
    let a = c.args.self.now.writer in
    let b = c.flush_queue.new.self.writer in
    err_says _ _ _ c.from_residual-in_err-flush_to.result c.from_residual-in_err-flush_to.ensures.1
    (stopped_then c.args.by a b c.flush_to.new.self.writer (subst (λ w. HasWritten w b) c.hear.ensures.writer c.in_ok-empty.ensures.events) c.in_err-flush_to.ensures.events)

pub returns-clause-events : goal.returns-clause-events
returns-clause-events g c =
    let a = c.args.self.now.writer in
    let b = c.flush_queue.new.self.writer in
    written_then a b c.flush_to.new.self.writer (subst (λ w. HasWritten w b) c.hear.ensures.writer c.in_ok-empty.ensures.events) c.in_ok-flush_to.ensures.events

pub returns-in_err-flush_to-clause-kept : goal.returns-in_err-flush_to-clause-kept
returns-in_err-flush_to-clause-kept g c =
    let a = c.args.self.now.writer in
    let b = c.flush_queue.new.self.writer in
    let e = c.flush_to.new.self.writer in
    let kind = g.D.Disk in
    drains_then kind (λ a. g.met.D.Disk.same_itself a) (λ a b d p q. g.met.D.Disk.same_on a b d p q) a b e (subst (λ w. Drains kind w b) c.hear.ensures.writer c.flush_queue.ensures.kept.0) (drains_writes b e kind c.flush_to.ensures.kept)

pub returns-clause-kept : goal.returns-clause-kept
returns-clause-kept g c =
    let a = c.args.self.now.writer in
    let b = c.flush_queue.new.self.writer in
    let e = c.flush_to.new.self.writer in
    let kind = g.D.Disk in
    drains_then kind (λ a. g.met.D.Disk.same_itself a) (λ a b d p q. g.met.D.Disk.same_on a b d p q) a b e (subst (λ w. Drains kind w b) c.hear.ensures.writer c.flush_queue.ensures.kept.0) (drains_writes b e kind c.flush_to.ensures.kept)

pub returns-then-not-empty-clause-events : goal.returns-then-not-empty-clause-events
returns-then-not-empty-clause-events g c = subst (λ w. HasWritten w c.flush_queue.new.self.writer) c.hear.ensures.writer c.in_ok-empty.ensures.events

pub returns-then-not-empty-clause-kept : goal.returns-then-not-empty-clause-kept
returns-then-not-empty-clause-kept g c = subst (λ w. Drains g.D.Disk w c.flush_queue.new.self.writer) c.hear.ensures.writer c.flush_queue.ensures.kept.0

pub returns-then-position-eq0-clause-events : goal.returns-then-position-eq0-clause-events
returns-then-position-eq0-clause-events g c = subst (λ w. HasWritten w c.flush_queue.new.self.writer) c.hear.ensures.writer c.in_ok-empty.ensures.events

pub returns-then-position-eq0-clause-kept : goal.returns-then-position-eq0-clause-kept
returns-then-position-eq0-clause-kept g c = subst (λ w. Drains g.D.Disk w c.flush_queue.new.self.writer) c.hear.ensures.writer c.flush_queue.ensures.kept.0

pub returns-in_err-empty-clause-kept : goal.returns-in_err-empty-clause-kept
returns-in_err-empty-clause-kept g c = subst (λ w. Drains g.D.Disk w c.flush_queue.new.self.writer) c.hear.ensures.writer c.flush_queue.ensures.kept.0

pub returns-then-not-empty-clause-popped : goal.returns-then-not-empty-clause-popped
returns-then-not-empty-clause-popped g c = missed_from c.args.self.now.end c.hear.new.self.end c.flush_queue.new.self.end c.hear.ensures.same.1 c.in_ok-empty.ensures.popped

pub returns-then-position-eq0-clause-popped : goal.returns-then-position-eq0-clause-popped
returns-then-position-eq0-clause-popped g c = missed_from c.args.self.now.end c.hear.new.self.end c.flush_queue.new.self.end c.hear.ensures.same.1 c.in_ok-empty.ensures.popped

pub returns-clause-popped : goal.returns-clause-popped
returns-clause-popped g c =
    let a = c.args.self.now.end in
    let d = c.flush_queue.new.self.end in
    missed_same a d c.flush_to.new.self.end c.flush_to.ensures.end (missed_from a c.hear.new.self.end d c.hear.ensures.same.1 c.in_ok-empty.ensures.popped)
