use Rattle.std.proofs.Common.{◌∙◌, ap, sym}
use Rattle.node_machine.specs.declared.event.Event.TheVariants.{OfTrail}
use Rattle.node_machine.specs.declared.event.TrailEvent.TheVariants.{Failed}
use Rattle.node_machine.specs.Opening.{trail_part}
use Rattle.audit_writer.proofs.Joining.{grown_then}
use Rattle.audit_writer.proofs.Locks.{learned_then}
use Rattle.audit_writer.proofs.Seats.{newly_stopped}
use Rattle.audit_writer.proofs.Tying.{drains_then, drains_told, end_same, end_then, missed_from, missed_same}
use Rattle.audit_writer.specs.Writes.{HasStopped, HasWritten}
use Rattle.audit_writer.proofs.Written.{both_match, on_ok, on_err, stopped_then, stopped_told, written_then, written_told}
use Rattle.audit_writer.proofs.queued.QueuedWriter.flush_queue.Goals as goal

pub returns-clause-kept : goal.returns-clause-kept
returns-clause-kept g c =
    let a = c.args.self.now in
    let b = c.meet.new.self in
    let d = c.drain-drained.new.self in
    let e = c.meet-2.new.self in
    let kind = g.D.Disk in (
      drains_then kind (λ a. g.met.D.Disk.same_itself a) (λ a b d p q. g.met.D.Disk.same_on a b d p q) a.writer b.writer e.writer (drains_told kind (λ a. g.met.D.Disk.same_itself a) (λ a b d p q. g.met.D.Disk.same_on a b d p q) a.writer b.writer c.meet.ensures.told)
          (drains_then kind (λ a. g.met.D.Disk.same_itself a) (λ a b d p q. g.met.D.Disk.same_on a b d p q) b.writer d.writer e.writer c.drain-drained.ensures.kept (drains_told kind (λ a. g.met.D.Disk.same_itself a) (λ a b d p q. g.met.D.Disk.same_on a b d p q) d.writer e.writer c.meet-2.ensures.told)),
      end_then a.end b.end e.end (end_same a.end b.end c.meet.ensures.end) (end_then b.end d.end e.end c.drain-drained.ensures.end (end_same d.end e.end c.meet-2.ensures.end)),
    )

pub returns-clause-all : goal.returns-clause-all
returns-clause-all g c = on_ok c.drain-drained.result (λ h. c.meet-2.ensures.told.queue ∙ h) c.drain-drained.ensures.all

pub returns-clause-grown : goal.returns-clause-grown
returns-clause-grown g c = grown_then c.args.caller.now c.meet.new.caller c.meet-2.new.caller c.meet.ensures.grown c.meet-2.ensures.grown

pub returns-clause-learned : goal.returns-clause-learned
returns-clause-learned g c = learned_then g.J.Run.opening c.args.caller.now c.meet.new.caller c.meet-2.new.caller c.meet.ensures.learned c.meet-2.ensures.learned

pub returns-clause-failed : goal.returns-clause-failed
returns-clause-failed g c =
    let e = c.drain-drained.ensures in
    let first = c.meet.ensures in
    let last = c.meet-2.ensures in
    let then = c.drain-drained.new.self.writer in
    let seat = first.told.seat ∙ c.lawful.ensures.seat in
    on_err c.drain-drained.result (λ h.
    newly_stopped (trail_part g.row.N) (OfTrail (Failed c.args.by)) h.0 c.args.caller.now c.meet.new.caller c.meet-2.new.caller c.meet.new.self.writer.seat.sight then.seat.sight c.meet-2.new.self.writer.seat.sight
    seat (sym first.same) first.grown h.1 (last.told.seat ∙ e.kept.seat ∙ seat) last.told.mine (sym last.same)) e.events_err

pub returns-clause-events : goal.returns-clause-events
returns-clause-events g c =
    let a = c.args.self.now.writer in
    let b = c.meet.new.self.writer in
    let d = c.drain-drained.new.self.writer in
    let e = c.meet-2.new.self.writer in
    let r = c.drain-drained.result in
    let first = written_told a b c.meet.ensures.told in
    both_match (HasWritten a e) (HasStopped c.args.by a e) r
    (on_ok r (λ h. written_then a b e first (written_then b d e h (written_told d e c.meet-2.ensures.told))) c.drain-drained.ensures.events)
    (on_err r (λ h. stopped_told c.args.by a d e (stopped_then c.args.by a b d first h) c.meet-2.ensures.told) c.drain-drained.ensures.events_err)

pub returns-clause-popped : goal.returns-clause-popped
returns-clause-popped g c =
    let a = c.args.self.now.end in
    let b = c.meet.new.self.end in
    let d = c.drain-drained.new.self.end in
    on_ok c.drain-drained.result (λ h. missed_same a d c.meet-2.new.self.end c.meet-2.ensures.end (missed_from a b d (ap (λ e. e.misses) c.meet.ensures.end) h)) c.drain-drained.ensures.popped
