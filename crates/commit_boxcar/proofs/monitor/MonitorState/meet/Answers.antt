use Rattle.std.proofs.Common.{◌+◌, [], length, ap, sym, ◌∙◌, subst}
use Rattle.chronicle.specs.Seats.{Knows}
use Rattle.node_machine.specs.Monitor.{recorded, offered_car}
use Rattle.node_machine.specs.Node.{node}
use Rattle.commit_boxcar.specs.Line.{IsLine, line_of}
use Rattle.commit_boxcar.specs.Monitor.{Belong, IsRise}
use Rattle.commit_boxcar.proofs.Lines.{line_more}
use Rattle.commit_boxcar.proofs.monitor.MonitorState.meet.Goals as goal

pub invariant_of-self : goal.invariant_of-self
invariant_of-self g c =
    let o = g.J.Run.opening in
    let n = g.J.NodeRun in
    let w = c.self.inside in
    let i = c.self.invariant in
    let m = c.meet.ensures.heard.stepped in
    let part = m.had.part in
    let after = Knows node o c.meet.new.self.sight in (
      i.0 ∙ ap (λ p. n.found.places + length (recorded p.events)) (sym part),
      i.1 ∙ ap (λ p. length (offered_car p.events)) (sym part),
      record {
        at = m.is;
        belong = subst (λ p. Belong g.D.Disk (n.premise 0) g.J.MonitorRun.before p w.trail) (sym part) i.2.belong;
        list = i.2.list;
        device = i.2.device;
        rise = subst (λ p. IsRise (n.faults 0) (g.D.Disk.faults w.trail.device) p.events) (sym part) i.2.rise;
        few = i.2.few;
        short = i.2.short;
      },
      subst (λ p. IsLine after n.found.epoch n.found.places (line_of p w.room.requests) w.room.last) (sym part)
          (line_more (Knows node o w.seat.sight) after n.found.epoch n.found.places (line_of w.seat.part w.room.requests) w.room.last m.knows i.3),
      subst (λ p. IsLine after n.found.epoch n.found.places (line_of p []) w.room.written) (sym part)
          (line_more (Knows node o w.seat.sight) after n.found.epoch n.found.places (line_of w.seat.part []) w.room.written m.knows i.4),
    )

pub returns-clause-backed : goal.returns-clause-backed
returns-clause-backed g c = λ x there. ((invariant_of-self g c).3.each x there).backed
