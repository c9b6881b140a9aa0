use Rattle.std.proofs.Common.{length, drop, refl, ap, sym, ◌∙◌, subst}
use Rattle.chronicle.specs.Seats.{Knows}
use Rattle.node_machine.specs.Node.{node}
use Rattle.node_machine.specs.Trail.{offered}
use Rattle.audit_writer.specs.Writer.{Writer, Belong, IsRise, disc_made}
use Rattle.audit_writer.proofs.Belongs.{learned}
use Rattle.audit_writer.proofs.Writers.{writer_of, due_of}
use Rattle.audit_writer.proofs.writer.WriterState.meet.Goals as goal

pub invariant_of-self : goal.invariant_of-self
invariant_of-self g c =
    let o = g.J.Run.opening in
    let n = g.J.NodeRun in
    let w = c.self.inside in
    let m = c.meet.ensures in
    let queue = drop w.landed w.records.items in
    let premise = n.premise w.seat.part.number in
    let after = Knows node o c.meet.new.self.sight in
    let old : Writer g.row.D.Denot = record { seat = w.seat; trail = w.trail; queue = queue; bounds = w.bounds } in
    let new : Writer g.row.D.Denot = record { seat = c.meet.new.self; trail = w.trail; queue = queue; bounds = w.bounds } in (
      c.self.invariant.0,
      c.self.invariant.1 ∙ ap (λ p. length (offered p.events)) (sym m.part),
      writer_of g.D.Disk o n.found n.rules n.faults n.premise g.J.DeviceRun.devices old new c.self.invariant.2 m.is
          (subst (λ p. Belong g.D.Disk premise after p w.trail queue) (sym m.part) (learned g.D.Disk premise (Knows node o w.seat.sight) after w.seat.part w.trail queue m.knows c.self.invariant.2.belong)) refl c.self.invariant.2.device (ap (λ p. p.number) m.part)
          (subst (λ p. IsRise (n.faults w.seat.part.number) (g.D.Disk.faults w.trail.device) p.events) (sym m.part) c.self.invariant.2.rise) m.knows refl,
      due_of w.seat.part c.meet.new.self.part queue queue w.due c.self.invariant.3 (ap (λ p. p.firsts) m.part) (λ d. ap (λ p. disc_made p queue d) m.part),
    )
