use Rattle.std.proofs.Common.{refl, ◌≢◌, ◌+◌, ◌<◌, [], length, drop, arith, ap, sym, ◌∙◌, subst}
use Rattle.chronicle.specs.Seats.{Knows}
use Rattle.node_machine.specs.Node.{node}
use Rattle.node_machine.specs.Trail.{offered}
use Rattle.audit_writer.specs.Writer.{Writer, Belong, IsRise, disc_made}
use Rattle.audit_writer.specs.Writes.{Writes}
use Rattle.audit_writer.proofs.Writers.{handed_on, rise_same, rise_failed, writer_of, due_of}
use Rattle.audit_writer.proofs.Queues.{queue_parts, shorter}
use Rattle.audit_writer.proofs.Belongs.{lands, not_landed, mine}
use Rattle.audit_writer.proofs.Written.{writes_landed, is_err}
use Rattle.audit_writer.proofs.writer.WriterState.land.Goals as goal

pub invariant_of-self : goal.invariant_of-self
invariant_of-self g c =
    let o = g.J.Run.opening in
    let w = c.self.inside in
    let is = c.self.invariant.2.belong in
    let s = c.append.ensures in
    let e = c.gate.ensures in
    let premise = g.J.NodeRun.premise w.seat.part.number in
    let after = Knows node o c.append.new.self.sight in
    let rest = drop (w.landed + w.offered) w.records.items in
    let parts = queue_parts w.landed w.offered w.records.items (offered w.seat.part.events) is.front c.self.invariant.1 in
    let keep = lands g.D.Disk premise (Knows node o w.seat.sight) after w.seat.part w.trail c.gate.new.self (drop w.landed w.records.items) s.knows e.keeps is rest parts c.in-Ok.ensures.stands.phase e.stands.files.1 (λ content holds. c.in-Ok.ensures.holds content holds) in
    let old : Writer g.row.D.Denot = record { seat = w.seat; trail = w.trail; queue = drop w.landed w.records.items; bounds = w.bounds } in
    let new : Writer g.row.D.Denot = record { seat = c.append.new.self; trail = c.gate.new.self; queue = rest; bounds = w.bounds } in (
      omega (arith, c.self.invariant.0),
      ap (λ p. length (offered p.events)) (sym s.part),
      writer_of g.D.Disk o g.J.NodeRun.found g.J.NodeRun.rules g.J.NodeRun.faults g.J.NodeRun.premise g.J.DeviceRun.devices old new c.self.invariant.2 s.is (subst (λ p. Belong g.D.Disk premise after p c.gate.new.self rest) (sym s.part) keep) e.keeps.rules (handed_on g.D.Disk (λ a b d p q. g.met.D.Disk.same_on a b d p q) (g.J.DeviceRun.devices w.seat.part.number) w.trail.device c.gate.new.self.device c.self.invariant.2.device e.keeps.device) (ap (λ p. p.number) s.part)
          (subst (λ p. IsRise (g.J.NodeRun.faults w.seat.part.number) (g.D.Disk.faults c.gate.new.self.device) p.events) (sym s.part) (rise_same _ _ (g.D.Disk.faults c.gate.new.self.device) w.seat.part.events c.self.invariant.2.rise e.cause.later)) s.knows refl,
      due_of w.seat.part c.append.new.self.part (drop w.landed w.records.items) rest w.due c.self.invariant.3 (ap (λ p. p.firsts) s.part)
          (λ d. ap (λ p. disc_made p rest d) s.part ∙ mine g.D.Disk premise (Knows node o w.seat.sight) after w.seat.part w.trail c.gate.new.self (drop w.landed w.records.items) s.knows e.keeps is rest parts d),
    )

pub invariant_of-self-in-Err : goal.invariant_of-self-in-Err
invariant_of-self-in-Err g c =
    let o = g.J.Run.opening in
    let w = c.self.inside in
    let is = c.self.invariant.2.belong in
    let s = c.append-in-Err.ensures in
    let e = c.gate.ensures in
    let premise = g.J.NodeRun.premise w.seat.part.number in
    let after = Knows node o c.append-in-Err.new.self.sight in
    let queue = drop w.landed w.records.items in
    let some = subst (λ v. offered v.seat.part.events ≢ []) (sym c.self.view_is) c.requires.offered in
    let keep = not_landed g.D.Disk premise (Knows node o w.seat.sight) after w.seat.part w.trail c.gate.new.self queue s.knows e.keeps is c.args.by some c.in-Err.ensures.stands.phase e.stands.files.1 (λ content holds. c.in-Err.ensures.holds content holds) in
    let old : Writer g.row.D.Denot = record { seat = w.seat; trail = w.trail; queue = queue; bounds = w.bounds } in
    let new : Writer g.row.D.Denot = record { seat = c.append-in-Err.new.self; trail = c.gate.new.self; queue = queue; bounds = w.bounds } in (
      c.self.invariant.0,
      c.self.invariant.1 ∙ ap (λ p. length (offered p.events)) (sym s.part),
      writer_of g.D.Disk o g.J.NodeRun.found g.J.NodeRun.rules g.J.NodeRun.faults g.J.NodeRun.premise g.J.DeviceRun.devices old new c.self.invariant.2 s.is (subst (λ p. Belong g.D.Disk premise after p c.gate.new.self queue) (sym s.part) keep) e.keeps.rules (handed_on g.D.Disk (λ a b d p q. g.met.D.Disk.same_on a b d p q) (g.J.DeviceRun.devices w.seat.part.number) w.trail.device c.gate.new.self.device c.self.invariant.2.device e.keeps.device) (ap (λ p. p.number) s.part)
          (subst (λ p. IsRise (g.J.NodeRun.faults w.seat.part.number) (g.D.Disk.faults c.gate.new.self.device) p.events) (sym s.part)
          (rise_failed _ _ (g.D.Disk.faults c.gate.new.self.device) w.seat.part.events c.args.by c.self.invariant.2.rise e.cause.later (e.cause.failed (is_err c.gate.result c.in-Err.fault c.in-Err.is)))) s.knows refl,
      due_of w.seat.part c.append-in-Err.new.self.part queue queue w.due c.self.invariant.3 (ap (λ p. p.firsts) s.part) (λ d. ap (λ p. disc_made p queue d) s.part),
    )

pub returns-in-Ok-clause-kept : goal.returns-in-Ok-clause-kept
returns-in-Ok-clause-kept g c =
    let w = c.self.inside in
    let s = c.append.ensures in
    let e = c.gate.ensures in
    let new : Writer g.row.D.Denot = record { seat = c.append.new.self; trail = c.gate.new.self; queue = drop (w.landed + w.offered) w.records.items; bounds = w.bounds } in
    let parts = queue_parts w.landed w.offered w.records.items (offered w.seat.part.events) c.self.invariant.2.belong.front c.self.invariant.1 in
    subst (λ v. Writes g.D.Disk v new) c.self.view_is (writes_landed g.D.Disk (record { seat = w.seat; trail = w.trail; queue = drop w.landed w.records.items; bounds = w.bounds }) new s.part s.seat s.begins parts e.keeps refl)

pub returns-in-Ok-clause-shorter : goal.returns-in-Ok-clause-shorter
returns-in-Ok-clause-shorter g c =
    let w = c.self.inside in
    let some = subst (λ v. offered v.seat.part.events ≢ []) (sym c.self.view_is) c.requires.offered in
    let parts = queue_parts w.landed w.offered w.records.items (offered w.seat.part.events) c.self.invariant.2.belong.front c.self.invariant.1 in
    subst (λ v. length (drop (w.landed + w.offered) w.records.items) < length v.queue) c.self.view_is (shorter (drop w.landed w.records.items) (drop (w.landed + w.offered) w.records.items) (offered w.seat.part.events) parts some)
