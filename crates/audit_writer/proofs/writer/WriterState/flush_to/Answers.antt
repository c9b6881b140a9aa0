use Rattle.std.proofs.Common.{◌≡◌, ◌++◌, length, Some, drop, refl, ap, sym, ◌∙◌, subst}
use Rattle.chronicle.specs.Seats.{Knows, own_events}
use Rattle.node_machine.specs.declared.event.Event.TheVariants.{OfTrail}
use Rattle.node_machine.specs.declared.event.TrailEvent.TheVariants.{Failed}
use Rattle.node_machine.specs.Node.{node}
use Rattle.node_machine.specs.Opening.{trail_part}
use Rattle.node_machine.specs.Parts.Fact.{Durable}
use Rattle.node_machine.specs.Trail.{offered, landed}
use Rattle.audit_writer.specs.Writer.{Writer, Belong, IsRise, disc_made}
use Rattle.audit_writer.specs.Writes.{HasUpTo}
use Rattle.audit_writer.proofs.Belongs.{learned}
use Rattle.audit_writer.proofs.Seats.{known_to, newly_stopped}
use Rattle.audit_writer.proofs.Writers.{writer_of, due_of}
use Rattle.audit_writer.proofs.Written.{on_ok, on_err, durable_of}
use Rattle.audit_writer.proofs.writer.WriterState.flush_to.Goals as goal

pub invariant_of-self : goal.invariant_of-self
invariant_of-self g c =
    let o = g.J.Run.opening in
    let n = g.J.NodeRun in
    let w = c.self.inside in
    let m = c.meet.ensures in
    let queue = drop w.landed w.records.items in
    let premise = n.premise w.seat.part.number in
    let after = Knows node o c.meet.new.self.sight in
    let old : Writer g.row.D.Denot = record { seat = w.seat; trail = w.trail; queue = queue; bounds = w.bounds } in
    let new : Writer g.row.D.Denot = record { seat = c.meet.new.self; trail = w.trail; queue = queue; bounds = w.bounds } in (
      c.self.invariant.0,
      c.self.invariant.1 ∙ ap (λ p. length (offered p.events)) (sym m.part),
      writer_of g.D.Disk o n.found n.rules n.faults n.premise g.J.DeviceRun.devices old new c.self.invariant.2 m.is
          (subst (λ p. Belong g.D.Disk premise after p w.trail queue) (sym m.part) (learned g.D.Disk premise (Knows node o w.seat.sight) after w.seat.part w.trail queue m.knows c.self.invariant.2.belong)) refl c.self.invariant.2.device (ap (λ p. p.number) m.part)
          (subst (λ p. IsRise (n.faults w.seat.part.number) (g.D.Disk.faults w.trail.device) p.events) (sym m.part) c.self.invariant.2.rise) m.knows refl,
      due_of w.seat.part c.meet.new.self.part queue queue w.due c.self.invariant.3 (ap (λ p. p.firsts) m.part) (λ d. ap (λ p. disc_made p queue d) m.part),
    )

pub invariant_of-self-2 : goal.invariant_of-self-2
invariant_of-self-2 g c =
    let o = g.J.Run.opening in
    let n = g.J.NodeRun in
    let w = c.self-2.inside in
    let m = c.meet-2.ensures in
    let queue = drop w.landed w.records.items in
    let premise = n.premise w.seat.part.number in
    let after = Knows node o c.meet-2.new.self.sight in
    let old : Writer g.row.D.Denot = record { seat = w.seat; trail = w.trail; queue = queue; bounds = w.bounds } in
    let new : Writer g.row.D.Denot = record { seat = c.meet-2.new.self; trail = w.trail; queue = queue; bounds = w.bounds } in (
      c.self-2.invariant.0,
      c.self-2.invariant.1 ∙ ap (λ p. length (offered p.events)) (sym m.part),
      writer_of g.D.Disk o n.found n.rules n.faults n.premise g.J.DeviceRun.devices old new c.self-2.invariant.2 m.is
          (subst (λ p. Belong g.D.Disk premise after p w.trail queue) (sym m.part) (learned g.D.Disk premise (Knows node o w.seat.sight) after w.seat.part w.trail queue m.knows c.self-2.invariant.2.belong)) refl c.self-2.invariant.2.device (ap (λ p. p.number) m.part)
          (subst (λ p. IsRise (n.faults w.seat.part.number) (g.D.Disk.faults w.trail.device) p.events) (sym m.part) c.self-2.invariant.2.rise) m.knows refl,
      due_of w.seat.part c.meet-2.new.self.part queue queue w.due c.self-2.invariant.3 (ap (λ p. p.firsts) m.part) (λ d. ap (λ p. disc_made p queue d) m.part),
    )

pub returns-clause-durable : goal.returns-clause-durable
returns-clause-durable g c =
    let o = g.J.Run.opening in
    let w = c.self.inside in
    let e = c.land_all-landed.ensures in
    let last = c.meet-2.ensures in
    let first = c.meet.ensures in
    let old : Writer g.row.D.Denot = record { seat = w.seat; trail = w.trail; queue = drop w.landed w.records.items; bounds = w.bounds } in
    let has : HasUpTo old c.args.disc c.args.position = subst (λ v. HasUpTo v c.args.disc c.args.position) (sym c.self.view_is) c.requires.has in
    let then = c.land_all-landed.new.self in
    let next : Writer g.row.D.Denot = record { seat = c.meet-2.new.self; trail = then.trail; queue = then.queue; bounds = w.bounds } in
    let part : c.meet-2.new.self.part ≡ then.seat.part = last.part ∙ ap (λ v. v.seat.part) c.self-2.view_is in
    on_ok c.land_all-landed.result (λ none.
    known_to o g.J.NodeRun.found c.meet-2.new.self c.meet-2.new.caller (Durable c.args.disc c.args.position) last.is last.same
    (durable_of old next c.args.disc c.args.position has
    (ap (λ p. p.config) part ∙ e.kept.config ∙ ap (λ p. p.config) first.part)
    (ap (λ p. p.number) part ∙ e.kept.number ∙ ap (λ p. p.number) first.part)
    (ap (λ p. p.firsts) part ∙ e.kept.firsts ∙ ap (λ p. p.firsts) first.part)
    (ap (λ p. landed p.events ++ then.queue) part ∙ e.kept.handed ∙ ap (λ p. landed p.events ++ drop w.landed w.records.items) first.part)
    none)) e.all

pub returns-clause-failed : goal.returns-clause-failed
returns-clause-failed g c =
    let e = c.land_all-landed.ensures in
    let last = c.meet-2.ensures in
    let first = c.meet.ensures in
    let then = c.land_all-landed.new.self in
    let number : trail_part c.meet.new.self.part.number ≡ trail_part c.args.self.now.seat.part.number = ap (λ p. trail_part p.number) first.part ∙ ap (λ v. trail_part v.seat.part.number) c.self.view_is in
    let seat = first.is.seat ∙ ap (λ n. Some n) number in
    let seat_2 = last.seat ∙ ap (λ v. v.seat.sight.part) c.self-2.view_is ∙ e.kept.seat ∙ seat in
    on_err c.land_all-landed.result (λ h.
    newly_stopped (trail_part c.args.self.now.seat.part.number) (OfTrail (Failed c.args.by)) h.0 c.args.caller.now c.meet.new.caller c.meet-2.new.caller c.meet.new.self.sight then.seat.sight c.meet-2.new.self.sight
    seat first.same first.grown h.1 seat_2 (last.mine ∙ ap (λ v. own_events v.seat.sight) c.self-2.view_is) last.same) e.events_err
