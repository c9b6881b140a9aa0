use Rattle.std.proofs.Common.{sym, subst}
use Rattle.chronicle.specs.Seats.{Knows}
use Rattle.node_machine.specs.declared.event.Event.TheVariants.{OfMonitor}
use Rattle.node_machine.specs.declared.event.MonitorEvent.TheVariants.{Failed}
use Rattle.node_machine.specs.Monitor.{StandsAt}
use Rattle.node_machine.specs.Node.{node}
use Rattle.node_machine.specs.Opening.{monitor_part}
use Rattle.node_machine.specs.Parts.Fact.{Recorded}
use Rattle.commit_boxcar.specs.Seat.{of_monitor}
use Rattle.commit_boxcar.proofs.Cars.{line_met, line_then, on_err}
use Rattle.commit_boxcar.proofs.Records.{backed_same, grown_then, if_none, if_place}
use Rattle.commit_boxcar.proofs.Seats.{known_to, newly_stopped, own_last, own_same}
use Rattle.commit_boxcar.proofs.monitor.MonitorState.record.Goals as goal

pub returns-clause-seen : goal.returns-clause-seen
returns-clause-seen g c =
    let o = g.J.Run.opening in
    let m = c.meet-2.ensures.met in
    let then = c.drive-place.new.self in
    if_place (λ place. Knows node o c.meet-2.new.caller (Recorded c.args.request place)) c.drive-place.result then c.args.request c.drive-place.ensures.place (λ place stands.
    known_to o g.J.NodeRun.found c.meet-2.new.self.seat c.meet-2.new.caller (Recorded c.args.request place) m.heard.stepped.is m.same (subst (λ p. StandsAt p c.args.request place) (sym m.heard.stepped.had.part) stands))

pub returns-clause-none : goal.returns-clause-none
returns-clause-none g c = if_none c.drive-place.result c.drive-place.new.self c.meet-2.new.self c.args.request c.meet-2.ensures.met.heard.stepped.had.part c.meet-2.ensures.requests.0 c.drive-place.ensures.place c.drive-place.ensures.idle

pub returns-clause-backed : goal.returns-clause-backed
returns-clause-backed g c = λ x there. backed_same g.J.Run.opening c.meet-2.new.self.seat.sight c.meet-2.new.caller x c.meet-2.ensures.met.same (c.meet-2.ensures.backed x there)

pub returns-clause-grown : goal.returns-clause-grown
returns-clause-grown g c = grown_then c.args.caller.now c.meet.new.caller c.meet-2.new.caller c.meet.ensures.met.grown c.meet-2.ensures.met.grown

pub returns-clause-failed : goal.returns-clause-failed
returns-clause-failed g c =
    let first = c.meet.ensures.met in
    let last = c.meet-2.ensures.met in
    on_err c.drive-place.result (λ h.
    newly_stopped monitor_part (OfMonitor (Failed c.args.by)) (of_monitor h.0) c.args.caller.now c.meet.new.caller c.meet-2.new.caller c.meet.new.self.seat.sight c.drive-place.new.self.seat.sight c.meet-2.new.self.seat.sight
    first.heard.stepped.is.seat first.same first.grown (own_last h.0 (Failed c.args.by) c.meet.new.self.seat c.drive-place.new.self.seat h.1) last.heard.stepped.is.seat (own_same c.drive-place.new.self.seat c.meet-2.new.self.seat last.heard.stepped.had) last.same) c.drive-place.ensures.stopped

pub returns-clause-line : goal.returns-clause-line
returns-clause-line g c =
    let v = c.args.self.now in
    let met = c.meet.new.self in
    let made = c.drive-place.new.self in
    let w = c.meet-2.new.self in
    let before = line_met v met c.meet.ensures.met.heard.stepped.had.part c.meet.ensures.requests.0 c.meet.ensures.requests.1 in
    let after = line_met made w c.meet-2.ensures.met.heard.stepped.had.part c.meet-2.ensures.requests.0 c.meet-2.ensures.requests.1 in
    line_then v met w before (line_then met made w c.drive-place.ensures.line after)
