use Rattle.std.proofs.Common.{ap, sym, ◌∙◌, subst}
use Rattle.trail_files.specs.declared.monitor_record.MonitorRecord.{MonitorRecord}
use Rattle.std.proofs.Common.{List}
use Rattle.node_machine.specs.declared.event.Event.TheVariants.{OfMonitor}
use Rattle.node_machine.specs.declared.event.MonitorEvent.TheVariants.{Failed}
use Rattle.node_machine.specs.Monitor.{StandsAt}
use Rattle.node_machine.specs.Opening.{monitor_part}
use Rattle.node_machine.specs.Parts.{MonitorPart}
use Rattle.node_machine.specs.Parts.Fact.{Recorded}
use Rattle.commit_boxcar.specs.Line.{IsNext, line_of}
use Rattle.commit_boxcar.specs.Seat.{of_monitor}
use Rattle.commit_boxcar.proofs.Cars.{line_for_same, line_for_then, line_met, on_err, on_ok_of}
use Rattle.commit_boxcar.proofs.Records.{grown_then, still_idle}
use Rattle.commit_boxcar.proofs.Seats.{known_to, newly_stopped, own_last, own_same}
use Rattle.commit_boxcar.proofs.monitor.MonitorState.record_alone.Goals as goal

pub car_of-place-requires : goal.car_of-place-requires
car_of-place-requires g c =
    let part = c.meet.ensures.met.heard.stepped.had.part in
    let room = c.meet.ensures.requests.0 in
    record {
      idle = still_idle c.args.self.now c.meet.new.self part room c.requires.idle;
      next = subst (λ (l : List MonitorRecord). IsNext l c.args.waiting) (sym (ap (λ (p : MonitorPart). line_of p c.meet.new.self.room) part ∙ ap (λ (l : List MonitorRecord). line_of c.args.self.now.seat.part l) room)) c.requires.next;
    }

pub returns-clause-seen : goal.returns-clause-seen
returns-clause-seen g c =
    let o = g.J.Run.opening in
    let m = c.meet-2.ensures.met in
    on_ok_of c.car_of-place.result (λ place stands.
    known_to o g.J.NodeRun.found c.meet-2.new.self.seat c.meet-2.new.caller (Recorded c.args.waiting place) m.heard.stepped.is m.same (subst (λ p. StandsAt p c.args.waiting place) (sym m.heard.stepped.had.part) stands)) c.car_of-place.ensures.place

pub returns-clause-grown : goal.returns-clause-grown
returns-clause-grown g c = grown_then c.args.caller.now c.meet.new.caller c.meet-2.new.caller c.meet.ensures.met.grown c.meet-2.ensures.met.grown

pub returns-clause-failed : goal.returns-clause-failed
returns-clause-failed g c =
    let first = c.meet.ensures.met in
    let last = c.meet-2.ensures.met in
    on_err c.car_of-place.result (λ h.
    newly_stopped monitor_part (OfMonitor (Failed c.args.by)) (of_monitor h.0) c.args.caller.now c.meet.new.caller c.meet-2.new.caller c.meet.new.self.seat.sight c.car_of-place.new.self.seat.sight c.meet-2.new.self.seat.sight
    first.heard.stepped.is.seat first.same first.grown (own_last h.0 (Failed c.args.by) c.meet.new.self.seat c.car_of-place.new.self.seat h.1) last.heard.stepped.is.seat (own_same c.car_of-place.new.self.seat c.meet-2.new.self.seat last.heard.stepped.had) last.same) c.car_of-place.ensures.stopped

pub returns-clause-line : goal.returns-clause-line
returns-clause-line g c =
    let v = c.args.self.now in
    let met = c.meet.new.self in
    let made = c.car_of-place.new.self in
    let w = c.meet-2.new.self in
    let before = line_met v met c.meet.ensures.met.heard.stepped.had.part c.meet.ensures.requests.0 c.meet.ensures.requests.1 in
    let same = ap (λ (p : MonitorPart). line_of p w.room) c.meet-2.ensures.met.heard.stepped.had.part ∙ ap (λ (l : List MonitorRecord). line_of made.seat.part l) c.meet-2.ensures.requests.0 in
    line_for_then c.args.waiting v met w before (line_for_same c.args.waiting met made w c.car_of-place.ensures.line same c.meet-2.ensures.requests.1)
