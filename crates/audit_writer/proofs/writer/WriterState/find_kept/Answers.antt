use Rattle.std.proofs.Common.{drop, length, refl, ap, sym, ◌∙◌, subst}
use Rattle.chronicle.specs.Seats.{Knows}
use Rattle.node_machine.specs.Node.{node}
use Rattle.node_machine.specs.Trail.{offered}
use Rattle.audit_writer.specs.Writer.{Writer, Belong, IsRise, disc_made}
use Rattle.audit_writer.proofs.Removals.{asks, moved, fell}
use Rattle.audit_writer.proofs.Written.{is_err}
use Rattle.audit_writer.proofs.Writers.{handed_on, rise_failed, writer_of, due_of}
use Rattle.audit_writer.proofs.writer.WriterState.find_kept.Goals as goal

pub invariant_of-self-in-Err : goal.invariant_of-self-in-Err
invariant_of-self-in-Err g c =
    let o = g.J.Run.opening in
    let n = g.J.NodeRun in
    let w = c.self.inside in
    let s = c.append.ensures in
    let e = c.first_kept.ensures in
    let queue = drop w.landed w.records.items in
    let premise = n.premise w.seat.part.number in
    let known = Knows node o w.seat.sight in
    let after = Knows node o c.append.new.self.sight in
    let next = c.first_kept.new.trail in
    let keep = fell g.D.Disk premise known w.seat.part next queue (moved g.D.Disk premise known w.seat.part w.trail queue c.self.invariant.2.belong next e.keeps e.phase e.files.1 (λ content holds. e.holds content holds)) after c.args.by s.knows in
    let old : Writer g.row.D.Denot = record { seat = w.seat; trail = w.trail; queue = queue; bounds = w.bounds } in
    let new : Writer g.row.D.Denot = record { seat = c.append.new.self; trail = next; queue = queue; bounds = w.bounds } in (
      c.self.invariant.0,
      c.self.invariant.1 ∙ ap (λ p. length (offered p.events)) (sym s.part),
      writer_of g.D.Disk o n.found n.rules n.faults n.premise g.J.DeviceRun.devices old new c.self.invariant.2 s.is (subst (λ p. Belong g.D.Disk premise after p next queue) (sym s.part) keep) e.keeps.rules (handed_on g.D.Disk (λ a b d p q. g.met.D.Disk.same_on a b d p q) (g.J.DeviceRun.devices w.seat.part.number) w.trail.device next.device c.self.invariant.2.device e.keeps.device) (ap (λ p. p.number) s.part)
          (subst (λ p. IsRise (n.faults w.seat.part.number) (g.D.Disk.faults next.device) p.events) (sym s.part)
          (rise_failed _ _ (g.D.Disk.faults next.device) w.seat.part.events c.args.by c.self.invariant.2.rise e.cause.later (e.cause.failed (is_err c.first_kept.result c.in-Err.fault c.in-Err.is)))) s.knows refl,
      due_of w.seat.part c.append.new.self.part queue queue w.due c.self.invariant.3 (ap (λ p. p.firsts) s.part) (λ d. ap (λ p. disc_made p queue d) s.part),
    )

pub returns-in-Ok-clause-asks : goal.returns-in-Ok-clause-asks
returns-in-Ok-clause-asks g c =
    let w = c.self.inside in
    let i = c.self.invariant.2 in
    let e = c.in-Ok.ensures in
    asks g.D.Disk (g.J.NodeRun.premise w.seat.part.number) (Knows node g.J.Run.opening w.seat.sight) w.seat.part w.trail (drop w.landed w.records.items) i.belong w.bounds c.in-Ok.file i.floors e.present
    (λ content told holds. (e.first content told holds).spent)
