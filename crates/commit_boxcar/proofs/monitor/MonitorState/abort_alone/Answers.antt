use Rattle.std.proofs.Common.{ap, sym, ◌∙◌, subst}
use Rattle.chronicle.specs.Seats.{Knows, HasNewlySeen, note_of}
use Rattle.trail_files.specs.declared.monitor_record.MonitorRecord.TheVariants.{Abort}
use Rattle.node_machine.specs.declared.event.By.TheVariants.{Attempt}
use Rattle.node_machine.specs.declared.event.Event.TheVariants.{OfMonitor}
use Rattle.node_machine.specs.declared.event.MonitorEvent.TheVariants.{Failed}
use Rattle.node_machine.specs.Node.{node}
use Rattle.node_machine.specs.Opening.{monitor_part}
use Rattle.node_machine.specs.Parts.Fact.{Recorded}
use Rattle.commit_boxcar.specs.Cars.{HasLineFor}
use Rattle.commit_boxcar.specs.Line.{IsNext}
use Rattle.commit_boxcar.specs.Monitor.{line}
use Rattle.commit_boxcar.proofs.Endings.{asked, abort_waits, same_tx, told, aborted, in_doubt}
use Rattle.commit_boxcar.proofs.monitor.MonitorState.abort_alone.Goals as goal

pub new-waiting-requires : goal.new-waiting-requires
new-waiting-requires g c = abort_waits g.J.Run.opening g.J.NodeRun.found c.args.tx c.tx-id.result c.note.result c.tx-id.ensures.tx c.note.ensures.note c.tx-id.ensures.state c.requires.run

pub record_alone-place-requires-clause-next : goal.record_alone-place-requires-clause-next
record_alone-place-requires-clause-next g c = subst (λ r. IsNext (line c.args.self.now) r) (sym (c.new-waiting.ensures ∙ ap (λ t. Abort t) c.tx-id.ensures.tx)) c.requires.next

pub ended-requires : goal.ended-requires
ended-requires g c =
    let o = g.J.Run.opening in
    let a = asked o c.args.tx c.note.new.self c.note-caller.new.self c.meet.new.self c.tx-id.result c.note-caller.result c.record_alone-place.new.caller c.meet.new.other c.tx-id.ensures.tx c.note.ensures.same c.note-caller.ensures.same c.note-caller.ensures.note c.record_alone-place.ensures.grown c.meet.ensures.met in
    let place = c.in-Ok.field-0 in
    let known = subst (λ r. Knows node o c.record_alone-place.new.caller (Recorded r place)) c.new-waiting.ensures c.in-Ok.ensures.seen in
    (place, subst (λ t. Knows node o c.meet.new.self.seat (Recorded (Abort t) place)) (same_tx o c.args.tx c.meet.new.self c.tx-id.result c.record_alone-place.new.caller c.meet.new.other a) (told o c.args.tx c.meet.new.self c.tx-id.result c.record_alone-place.new.caller c.meet.new.other a _ known))

pub returns-in-Ok-clause-aborted : goal.returns-in-Ok-clause-aborted
returns-in-Ok-clause-aborted g c =
    let o = g.J.Run.opening in
    let a = asked o c.args.tx c.note.new.self c.note-caller.new.self c.meet.new.self c.tx-id.result c.note-caller.result c.record_alone-place.new.caller c.meet.new.other c.tx-id.ensures.tx c.note.ensures.same c.note-caller.ensures.same c.note-caller.ensures.note c.record_alone-place.ensures.grown c.meet.ensures.met in
    let place = c.in-Ok.field-0 in
    let known = subst (λ r. Knows node o c.record_alone-place.new.caller (Recorded r place)) c.new-waiting.ensures c.in-Ok.ensures.seen in
    aborted o c.args.tx c.meet.new.self c.tx-id.result c.record_alone-place.new.caller c.meet.new.other a c.ended.result place c.ended.ensures known

pub returns-clause-in_doubt : goal.returns-clause-in_doubt
returns-clause-in_doubt g c =
    let o = g.J.Run.opening in
    let a = asked o c.args.tx c.note.new.self c.note-caller.new.self c.meet.new.self c.tx-id.result c.note-caller.result c.record_alone-place.new.caller c.meet.new.other c.tx-id.ensures.tx c.note.ensures.same c.note-caller.ensures.same c.note-caller.ensures.note c.record_alone-place.ensures.grown c.meet.ensures.met in
    let new = subst (λ s. HasNewlySeen monitor_part (OfMonitor (Failed (Attempt c.tx-id.result))) s c.record_alone-place.new.caller) (c.note-caller.ensures.note ∙ ap (λ t. note_of t.seat) c.note.ensures.same) c.in-Err.ensures.failed in
    in_doubt o c.args.tx c.meet.new.self c.tx-id.result c.record_alone-place.new.caller c.meet.new.other a c.into_seat.result c.into_seat.ensures new

pub returns-in-Ok-clause-line : goal.returns-in-Ok-clause-line
returns-in-Ok-clause-line g c = subst (λ r. HasLineFor r c.args.self.now c.record_alone-place.new.self) (c.new-waiting.ensures ∙ ap (λ t. Abort t) c.tx-id.ensures.tx) c.record_alone-place.ensures.line

pub returns-clause-line : goal.returns-clause-line
returns-clause-line g c = subst (λ r. HasLineFor r c.args.self.now c.record_alone-place.new.self) (c.new-waiting.ensures ∙ ap (λ t. Abort t) c.tx-id.ensures.tx) c.record_alone-place.ensures.line
