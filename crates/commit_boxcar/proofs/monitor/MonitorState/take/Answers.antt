use Rattle.std.proofs.Common.{◌+◌, [], length, refl, ap, sym, ◌∙◌, subst}
use Rattle.chronicle.specs.Seats.{Knows}
use Rattle.trail_files.specs.declared.monitor_record.MonitorRecord.{MonitorRecord}
use Rattle.node_machine.specs.Monitor.{recorded, offered_car}
use Rattle.node_machine.specs.Node.{node}
use Rattle.commit_boxcar.specs.Cars.{HasTakenOne}
use Rattle.commit_boxcar.specs.Line.{IsLine, line_of}
use Rattle.commit_boxcar.specs.Monitor.{Monitor, Belong, IsRise}
use Rattle.commit_boxcar.proofs.Cars.{taken_heard}
use Rattle.commit_boxcar.proofs.Lines.{asked_more, line_more}
use Rattle.commit_boxcar.proofs.monitor.MonitorState.take.Goals as goal

pub invariant_of-self : goal.invariant_of-self
invariant_of-self g c =
    let o = g.J.Run.opening in
    let n = g.J.NodeRun in
    let w = c.self.inside in
    let i = c.self.invariant in
    let j = c.join.ensures.stepped in
    let part = j.had.part in
    let after = Knows node o c.join.new.self.sight in (
      i.0 ∙ ap (λ p. n.found.places + length (recorded p.events)) (sym part),
      i.1 ∙ ap (λ p. length (offered_car p.events)) (sym part),
      record {
        at = j.is;
        belong = subst (λ p. Belong g.D.Disk (n.premise 0) g.J.MonitorRun.before p w.trail) (sym part) i.2.belong;
        list = i.2.list;
        device = i.2.device;
        rise = subst (λ p. IsRise (n.faults 0) (g.D.Disk.faults w.trail.device) p.events) (sym part) i.2.rise;
        few = i.2.few;
        short = i.2.short;
      },
      subst (λ p. IsLine after n.found.epoch n.found.places (line_of p w.room.requests) w.room.last) (sym part)
          (line_more (Knows node o w.seat.sight) after n.found.epoch n.found.places (line_of w.seat.part w.room.requests) w.room.last j.knows i.3),
      subst (λ p. IsLine after n.found.epoch n.found.places (line_of p []) w.room.written) (sym part)
          (line_more (Knows node o w.seat.sight) after n.found.epoch n.found.places (line_of w.seat.part []) w.room.written j.knows i.4),
    )

pub enter-requires-clause-asked : goal.enter-requires-clause-asked
enter-requires-clause-asked g c = asked_more (Knows node g.J.Run.opening c.into_parts-request.result.1) (Knows node g.J.Run.opening c.join.new.self.sight) g.J.NodeRun.found.epoch c.join.ensures.told c.into_parts-request.result.0 c.into_parts-request.ensures.waiting.asked

pub returns : goal.returns
returns g c =
    let w = c.self.inside in
    let heard : Monitor g.row.D.Denot = record { seat = c.join.new.self; trail = w.trail; room = w.room.requests; end = w.end } in
    subst (λ (r : MonitorRecord). HasTakenOne c.args.self.now c.enter.new.self r) c.into_parts-request.ensures.request
    (subst (λ v. HasTakenOne v c.enter.new.self c.into_parts-request.result.0) c.self.view_is
    (taken_heard (record { seat = w.seat; trail = w.trail; room = w.room.requests; end = w.end }) heard c.enter.new.self c.into_parts-request.result.0 c.join.ensures.stepped.had refl refl refl c.enter.ensures.taken))
