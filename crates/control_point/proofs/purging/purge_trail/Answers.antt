use Rattle.std.proofs.Common.{◌≡◌, ℕ, ◌∙◌, subst, arith}
use Rattle.std.specs.Prelude.{OnErr}
use Rattle.chronicle.specs.Seats.{HasNewlySeen}
use Rattle.node_machine.specs.declared.event.Event.TheVariants.{OfTrail}
use Rattle.node_machine.specs.declared.event.TrailEvent.TheVariants as trail_did
use Rattle.node_machine.specs.Opening.{trail_part}
use Rattle.audit_writer.specs.Writer.{IsWriter}
use Rattle.audit_writer.specs.Writers.{held_number, held_writer, number_of as trail_number}
use Rattle.control_point.proofs.Removed.{newly_earlier, was_purged}
use Rattle.control_point.proofs.Stops.{more_then}
use Rattle.control_point.proofs.purging.purge_trail.Goals as goal

pub returns-clause-purged : goal.returns-clause-purged
returns-clause-purged g c =
    let t = c.tell.ensures in
    let p = c.purge.ensures in
    let raised = t.raised.mine in
    was_purged g.D.Disk (IsWriter g.D.Disk g.J.Run.opening g.J.NodeRun.found g.J.NodeRun.rules g.J.NodeRun.faults g.J.NodeRun.premise g.J.DeviceRun.devices) c.args.by (held_number c.lock-held.result) (trail_number c.args.writer.now)
    c.args.floor.0 c.args.floor.1 (held_writer c.tell.new.self) (held_writer c.purge.new.self) c.purge.result c.lawful.ensures.lawful (c.lawful.ensures.number ∙ t.number) c.lock-held.ensures (omega (arith, raised)) p.kept p.removes p.events

pub returns-clause-failed : goal.returns-clause-failed
returns-clause-failed g c =
    let number : held_number c.tell.new.self ≡ trail_number c.args.writer.now = c.tell.ensures.number ∙ c.lock-held.ensures in
    newly_earlier (trail_part (trail_number c.args.writer.now)) (OfTrail (trail_did.Failed c.args.by)) c.args.caller.now c.tell.new.disc c.purge.new.caller c.purge.result c.tell.ensures.grown.begins
    (subst (λ (n : ℕ). OnErr c.purge.result (HasNewlySeen (trail_part n) (OfTrail (trail_did.Failed c.args.by)) c.tell.new.disc c.purge.new.caller)) number c.purge.ensures.failed)

pub returns-clause-seat : goal.returns-clause-seat
returns-clause-seat g c = more_then g.J.Run.opening c.args.caller.now c.tell.new.disc c.purge.new.caller (c.tell.ensures.grown, c.tell.ensures.learned) (c.purge.ensures.grown, c.purge.ensures.learned)
