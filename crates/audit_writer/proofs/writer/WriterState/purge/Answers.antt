use Rattle.std.proofs.Common.{sym, ◌∙◌}
use Rattle.node_machine.specs.declared.event.Event.TheVariants.{OfTrail}
use Rattle.node_machine.specs.declared.event.TrailEvent.TheVariants.{Failed}
use Rattle.node_machine.specs.Opening.{trail_part}
use Rattle.audit_writer.proofs.Purges.{purged_between, purge_stopped_between, removed_between}
use Rattle.audit_writer.proofs.Seats.{newly_stopped}
use Rattle.audit_writer.proofs.Written.{on_ok, on_err, both_match, writes_between}
use Rattle.audit_writer.proofs.writer.WriterState.purge.Goals as goal

pub returns-clause-kept : goal.returns-clause-kept
returns-clause-kept g c =
    let first = c.meet.ensures.told in
    let last = c.meet-2.ensures.told in
    let e = c.remove_spent-purged.ensures in
    (writes_between g.D.Disk c.args.self.now c.meet.new.self c.remove_spent-purged.new.self c.meet-2.new.self first e.kept last, last.queue ∙ e.queue ∙ first.queue)

pub returns-clause-removes : goal.returns-clause-removes
returns-clause-removes g c = removed_between g.D.Disk c.remove_spent-purged.result c.args.self.now c.meet.new.self c.remove_spent-purged.new.self c.meet-2.new.self c.meet.ensures.told c.meet-2.ensures.told c.remove_spent-purged.ensures.removes

pub returns-clause-events : goal.returns-clause-events
returns-clause-events g c =
    let e = c.remove_spent-purged.ensures in
    let first = c.meet.ensures.told in
    let last = c.meet-2.ensures.told in
    both_match _ _ c.remove_spent-purged.result
    (on_ok c.remove_spent-purged.result (λ h. purged_between c.args.self.now c.meet.new.self c.remove_spent-purged.new.self c.meet-2.new.self first last h) e.events)
    (on_err c.remove_spent-purged.result (λ h. purge_stopped_between c.args.by c.args.self.now c.meet.new.self c.remove_spent-purged.new.self c.meet-2.new.self first last h) e.events_err)

pub returns-clause-failed : goal.returns-clause-failed
returns-clause-failed g c =
    let e = c.remove_spent-purged.ensures in
    let first = c.meet.ensures in
    let last = c.meet-2.ensures in
    let seat = first.told.seat ∙ c.lawful.ensures.at.seat in
    let seat_2 = last.told.seat ∙ e.kept.seat ∙ seat in
    on_err c.remove_spent-purged.result (λ h.
    newly_stopped (trail_part c.args.self.now.seat.part.number) (OfTrail (Failed c.args.by)) h.0 c.args.caller.now c.meet.new.caller c.meet-2.new.caller c.meet.new.self.seat.sight c.remove_spent-purged.new.self.seat.sight c.meet-2.new.self.seat.sight
    seat (sym first.same) first.grown h.1 seat_2 last.told.mine (sym last.same)) e.events_err
