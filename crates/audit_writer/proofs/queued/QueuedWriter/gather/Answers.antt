use Rattle.std.proofs.Common.{◌≤◌, refl, ap, sym, ◌∙◌, subst, arith}
use Rattle.audit_writer.specs.Drains.{Drains}
use Rattle.audit_writer.specs.Writes.{HasWritten}
use Rattle.audit_writer.proofs.Tying.{drains_none, drains_then, end_same, end_then, missed_after, turned_on, turned_out, turned_same}
use Rattle.audit_writer.proofs.Written.{err_anyway, written_none, written_then, stopped_then}
use Rattle.audit_writer.proofs.queued.QueuedWriter.gather.Goals as goal

pub loop-init : goal.loop-init
loop-init g c =
    let v = c.args.self.now in
    (drains_none g.D.Disk (λ a. g.met.D.Disk.same_itself a) (λ a b d p q. g.met.D.Disk.same_on a b d p q) v.writer, written_none v.writer, end_same v.end v.end refl, omega arith, turned_same v.end v.end refl)

pub loop-preserved : goal.loop-preserved
loop-preserved g c =
    let a = c.args.self.now.writer in
    let i = c.loop.invariant in
    let j = subst (λ x. Drains g.D.Disk a x × HasWritten a x × (g.D.Disk.faults a.trail.device ≤ g.D.Disk.faults x.trail.device)) (sym c.pop.ensures.writer) (i.0, i.1, i.3) in
    let before = j.2 in
    let later = c.take_or_land.ensures.cause.later in (
      drains_then g.D.Disk (λ a. g.met.D.Disk.same_itself a) (λ a b d p q. g.met.D.Disk.same_on a b d p q) a c.pop.new.self.writer c.take_or_land.new.self.writer j.0 c.take_or_land.ensures.kept,
      written_then a c.pop.new.self.writer c.take_or_land.new.self.writer j.1 c.in_ok-take_or_land.ensures.events,
      end_then c.args.self.now.end c.pop.new.self.end c.take_or_land.new.self.end (end_then c.args.self.now.end c.loop.self.end c.pop.new.self.end i.2 c.pop.ensures.end) (end_same c.pop.new.self.end c.take_or_land.new.self.end c.take_or_land.ensures.end),
      omega (arith, before, later),
      turned_on c.loop.counter c.pop.result c.args.self.now.end c.loop.self.end c.pop.new.self.end c.take_or_land.new.self.end c.if-not-pop.false c.take_or_land.ensures.end i.4 c.pop.ensures.turned,
    )

pub returns-then-not-pop-clause-kept : goal.returns-then-not-pop-clause-kept
returns-then-not-pop-clause-kept g c = subst (λ x. Drains g.D.Disk c.args.self.now.writer x) (sym (ap (λ v. v.writer) c.is_empty.ensures.same ∙ c.pop.ensures.writer)) c.loop.invariant.0

pub returns-then-not-pop-clause-events : goal.returns-then-not-pop-clause-events
returns-then-not-pop-clause-events g c = subst (λ x. HasWritten c.args.self.now.writer x) (sym (ap (λ v. v.writer) c.is_empty.ensures.same ∙ c.pop.ensures.writer)) c.loop.invariant.1

pub returns-in_err-take_or_land-clause-kept : goal.returns-in_err-take_or_land-clause-kept
returns-in_err-take_or_land-clause-kept g c =
    let j = subst (λ x. Drains g.D.Disk c.args.self.now.writer x) (sym c.pop.ensures.writer) c.loop.invariant.0 in
    drains_then g.D.Disk (λ a. g.met.D.Disk.same_itself a) (λ a b d p q. g.met.D.Disk.same_on a b d p q) c.args.self.now.writer c.pop.new.self.writer c.take_or_land.new.self.writer j c.take_or_land.ensures.kept

pub returns-in_err-take_or_land-clause-events_err : goal.returns-in_err-take_or_land-clause-events_err
returns-in_err-take_or_land-clause-events_err g c =
    let j = subst (λ x. HasWritten c.args.self.now.writer x) (sym c.pop.ensures.writer) c.loop.invariant.1 in
    err_anyway c.from_residual.result (stopped_then c.args.by c.args.self.now.writer c.pop.new.self.writer c.take_or_land.new.self.writer j c.in_err-take_or_land.ensures.events_err)

pub returns-then-not-pop-clause-popped : goal.returns-then-not-pop-clause-popped
returns-then-not-pop-clause-popped g c =
    missed_after c.loop.counter c.pop.result c.args.self.now.end c.loop.self.end c.pop.new.self.end c.is_empty.new.self.end c.if-not-pop.true (ap (λ v. v.end) c.is_empty.ensures.same) c.loop.invariant.4 c.pop.ensures.turned

pub returns-clause-popped : goal.returns-clause-popped
returns-clause-popped g c = turned_out c.loop.counter c.args.self.now.end c.loop.self.end (omega arith) c.loop.invariant.4
