use Rattle.std.specs.Prelude.{Result, Err, IsErr}
use Rattle.std.proofs.Common.{◌≡◌, ◌≢◌, ◌+◌, [], length, refl, arith, ap, sym, ◌∙◌, subst, length-append, ◌++◌}
use Rattle.chronicle.specs.Seats.{Knows}
use Rattle.node_machine.specs.Monitor.{recorded, offered_car}
use Rattle.node_machine.specs.Node.{node}
use Rattle.commit_boxcar.specs.Line.{IsLine, line_of}
use Rattle.commit_boxcar.specs.Monitor.{Belong, IsRise, offered_batch}
use Rattle.commit_boxcar.proofs.Belongs.{lands, not_landed, rise_same, rise_failed, handed_on}
use Rattle.commit_boxcar.proofs.Lines.{line_more, line_landed, line_short}
use Rattle.commit_boxcar.proofs.monitor.MonitorState.land.Goals as goal

is_err : {T E : Type 0} (r : Result T E) (e : E) → r ≡ Err e → IsErr r
is_err r e is = subst (λ (x : _). IsErr x) (sym is) refl

pub invariant_of-self : goal.invariant_of-self
invariant_of-self g c =
    let o = g.J.Run.opening in
    let n = g.J.NodeRun in
    let w = c.self.inside in
    let i = c.self.invariant in
    let s = c.append.ensures in
    let part = s.had.part in
    let e = c.gate.ensures in
    let before = g.J.MonitorRun.before in
    let events = w.seat.part.events in
    let after = Knows node o c.append.new.self.sight in
    let keep = lands g.D.Disk (n.premise 0) before w.seat.part w.trail c.gate.new.self e.keeps i.2.belong c.in-Ok.ensures.stands.phase (λ content holds. c.in-Ok.ensures.holds content holds) in
    let many = ap (λ p. length (recorded p.events)) part ∙ length-append (recorded events) (offered_car events) in (
      omega (arith, many, i.0, i.1),
      sym (ap (λ p. length (offered_car p.events)) part),
      record {
        at = s.is;
        belong = subst (λ p. Belong g.D.Disk (n.premise 0) before p c.gate.new.self) (sym part) keep;
        list = i.2.list;
        device = handed_on g.D.Disk (λ a b d p q. g.met.D.Disk.same_on a b d p q) (g.J.DeviceRun.devices 0) w.trail.device c.gate.new.self.device i.2.device e.keeps.device;
        rise = subst (λ p. IsRise (n.faults 0) (g.D.Disk.faults c.gate.new.self.device) p.events) (sym part) (rise_same (n.faults 0) (g.D.Disk.faults w.trail.device) (g.D.Disk.faults c.gate.new.self.device) events i.2.rise e.cause.later);
        few = i.2.few;
        short = i.2.short;
      },
      subst (λ p. IsLine after n.found.epoch n.found.places (line_of p w.room.requests) w.room.last) (sym part)
          (subst (λ l. IsLine after n.found.epoch n.found.places l w.room.last) (sym (line_landed (recorded events) (offered_car events) w.room.requests))
          (line_more (Knows node o w.seat.sight) after n.found.epoch n.found.places (line_of w.seat.part w.room.requests) w.room.last s.knows i.3)),
      subst (λ p. IsLine after n.found.epoch n.found.places (line_of p []) w.room.written) (sym part)
          (subst (λ l. IsLine after n.found.epoch n.found.places l w.room.written) (sym (line_landed (recorded events) (offered_car events) []))
          (line_more (Knows node o w.seat.sight) after n.found.epoch n.found.places (line_of w.seat.part []) w.room.written s.knows i.4)),
    )

pub invariant_of-self-in-Err : goal.invariant_of-self-in-Err
invariant_of-self-in-Err g c =
    let o = g.J.Run.opening in
    let n = g.J.NodeRun in
    let w = c.self.inside in
    let i = c.self.invariant in
    let s = c.append-in-Err.ensures in
    let part = s.had.part in
    let e = c.gate.ensures in
    let before = g.J.MonitorRun.before in
    let events = w.seat.part.events in
    let after = Knows node o c.append-in-Err.new.self.sight in
    let some = subst (λ v. offered_batch v ≢ []) (sym c.self.view_is) c.requires.offered in
    let keep = not_landed g.D.Disk (n.premise 0) before w.seat.part w.trail c.gate.new.self e.keeps i.2.belong c.args.by some c.in-Err.ensures.stands.phase (λ content holds. c.in-Err.ensures.holds content holds) in (
      i.0 ∙ ap (λ p. n.found.places + length (recorded p.events)) (sym part),
      i.1 ∙ ap (λ p. length (offered_car p.events)) (sym part),
      record {
        at = s.is;
        belong = subst (λ p. Belong g.D.Disk (n.premise 0) before p c.gate.new.self) (sym part) keep;
        list = i.2.list;
        device = handed_on g.D.Disk (λ a b d p q. g.met.D.Disk.same_on a b d p q) (g.J.DeviceRun.devices 0) w.trail.device c.gate.new.self.device i.2.device e.keeps.device;
        rise = subst (λ p. IsRise (n.faults 0) (g.D.Disk.faults c.gate.new.self.device) p.events) (sym part)
            (rise_failed (n.faults 0) (g.D.Disk.faults w.trail.device) (g.D.Disk.faults c.gate.new.self.device) events c.args.by i.2.rise e.cause.later (e.cause.failed (is_err c.gate.result c.in-Err.fault c.in-Err.is)));
        few = i.2.few;
        short = i.2.short;
      },
      subst (λ p. IsLine after n.found.epoch n.found.places (line_of p w.room.requests) w.room.last) (sym part)
          (line_more (Knows node o w.seat.sight) after n.found.epoch n.found.places (line_of w.seat.part w.room.requests) w.room.last s.knows i.3),
      subst (λ p. IsLine after n.found.epoch n.found.places (line_of p []) w.room.written) (sym part)
          (line_more (Knows node o w.seat.sight) after n.found.epoch n.found.places (line_of w.seat.part []) w.room.written s.knows i.4),
    )

pub overflow_add-self : goal.overflow_add-self
overflow_add-self g c =
    let n = g.J.NodeRun in
    let w = c.self.inside in
    let i = c.self.invariant in
    let events = w.seat.part.events in
    let few = line_short (Knows node g.J.Run.opening w.seat.sight) n.found.epoch n.found.places (line_of w.seat.part w.room.requests) w.room.last i.3 in
    let long = length-append (recorded events) (offered_car events ++ w.room.requests) in
    let rest = length-append (offered_car events) w.room.requests in
    let short = i.2.short in
    let a = i.0 in
    let b = i.1 in
    omega (arith, few, long, rest, short, a, b)
