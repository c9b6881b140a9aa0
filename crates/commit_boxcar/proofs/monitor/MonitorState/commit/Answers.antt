use Rattle.std.proofs.Common.{refl, subst}
use Rattle.chronicle.specs.Seats.{Knows, HasNewlySeen}
use Rattle.tmf_model.specs.declared.script.Close.TheVariants.{Commit as Committing}
use Rattle.trail_files.specs.declared.monitor_record.MonitorRecord.TheVariants.{Commit}
use Rattle.node_machine.specs.declared.event.By.TheVariants.{Attempt}
use Rattle.node_machine.specs.declared.event.Event.TheVariants.{OfMonitor}
use Rattle.node_machine.specs.declared.event.MonitorEvent.TheVariants.{Failed}
use Rattle.node_machine.specs.Node.{node}
use Rattle.node_machine.specs.Opening.{monitor_part}
use Rattle.node_machine.specs.Parts.Fact.{Recorded}
use Rattle.commit_boxcar.specs.Cars.{HasLineFor}
use Rattle.commit_boxcar.specs.Monitor.{line}
use Rattle.commit_boxcar.proofs.Cars.{line_for, line_for_then, on_ok_of}
use Rattle.commit_boxcar.proofs.Endings.{asked, same_tx, told, recorded_at, in_doubt, in_doubt_then, recorded_then, next_of, of_run, on_err_of, worker_small}
use Rattle.commit_boxcar.proofs.monitor.MonitorState.commit.Goals as goal

pub record-found-requires : goal.record-found-requires
record-found-requires g c = record { worker = worker_small g.J.Run.opening g.J.NodeRun.found c.tx-id.result (Commit c.tx-id.result) refl refl (of_run g.J.Run.opening g.J.NodeRun.found c.args.tx.tx c.tx-id.result c.tx-id.ensures.tx c.requires.run) }

pub commit_alone-requires : goal.commit_alone-requires
commit_alone-requires g c =
    let o = g.J.Run.opening in
    let a = asked o c.args.tx c.args.tx c.note-caller.new.self c.meet.new.self c.tx-id.result c.note-caller.result c.record-found.new.caller c.meet.new.other c.tx-id.ensures.tx refl c.note-caller.ensures.same c.note-caller.ensures.note c.record-found.ensures.grown c.meet.ensures.met in
    let none = c.in-Ok.ensures.none c.in-None.is in
    record {
      run = of_run o g.J.NodeRun.found c.args.tx.tx c.meet.new.self.tx a.met_is.tx c.requires.run;
      idle = none.0;
      next = next_of o c.args.tx c.meet.new.self c.tx-id.result c.record-found.new.caller c.meet.new.other a g.J.NodeRun.found Committing c.record-found.ensures.opens c.meet.ensures.state.last (line c.record-found.new.self) c.record-found.ensures.backed none.1;
    }

pub ended-requires : goal.ended-requires
ended-requires g c =
    let o = g.J.Run.opening in
    let a = asked o c.args.tx c.args.tx c.note-caller.new.self c.meet.new.self c.tx-id.result c.note-caller.result c.record-found.new.caller c.meet.new.other c.tx-id.ensures.tx refl c.note-caller.ensures.same c.note-caller.ensures.note c.record-found.ensures.grown c.meet.ensures.met in
    let known = rw c.in-Some.is at c.in-Ok.ensures.seen in
    subst (λ t. Knows node o c.meet.new.self.seat (Recorded (Commit t) c.in-Some.place)) (same_tx o c.args.tx c.meet.new.self c.tx-id.result c.record-found.new.caller c.meet.new.other a) (told o c.args.tx c.meet.new.self c.tx-id.result c.record-found.new.caller c.meet.new.other a _ known)

pub returns-in-Some-clause-recorded : goal.returns-in-Some-clause-recorded
returns-in-Some-clause-recorded g c =
    let o = g.J.Run.opening in
    let a = asked o c.args.tx c.args.tx c.note-caller.new.self c.meet.new.self c.tx-id.result c.note-caller.result c.record-found.new.caller c.meet.new.other c.tx-id.ensures.tx refl c.note-caller.ensures.same c.note-caller.ensures.note c.record-found.ensures.grown c.meet.ensures.met in
    let known = rw c.in-Some.is at c.in-Ok.ensures.seen in
    recorded_at o c.args.tx c.meet.new.self c.tx-id.result c.record-found.new.caller c.meet.new.other a c.ended.result c.in-Some.place c.ended.ensures known

pub returns-in-Ok-clause-recorded : goal.returns-in-Ok-clause-recorded
returns-in-Ok-clause-recorded g c =
    let o = g.J.Run.opening in
    let a = asked o c.args.tx c.args.tx c.note-caller.new.self c.meet.new.self c.tx-id.result c.note-caller.result c.record-found.new.caller c.meet.new.other c.tx-id.ensures.tx refl c.note-caller.ensures.same c.note-caller.ensures.note c.record-found.ensures.grown c.meet.ensures.met in
    on_ok_of c.commit_alone.result (λ e r. recorded_then o c.args.tx c.meet.new.self c.tx-id.result c.record-found.new.caller c.meet.new.other a e r) c.commit_alone.ensures.recorded

pub returns-in-Ok-clause-in_doubt : goal.returns-in-Ok-clause-in_doubt
returns-in-Ok-clause-in_doubt g c =
    let o = g.J.Run.opening in
    let a = asked o c.args.tx c.args.tx c.note-caller.new.self c.meet.new.self c.tx-id.result c.note-caller.result c.record-found.new.caller c.meet.new.other c.tx-id.ensures.tx refl c.note-caller.ensures.same c.note-caller.ensures.note c.record-found.ensures.grown c.meet.ensures.met in
    on_err_of o c.commit_alone.result (λ e d. in_doubt_then o c.args.tx c.meet.new.self c.tx-id.result c.record-found.new.caller c.meet.new.other a e.tx e.seat d) c.commit_alone.ensures.in_doubt

pub returns-clause-in_doubt : goal.returns-clause-in_doubt
returns-clause-in_doubt g c =
    let o = g.J.Run.opening in
    let a = asked o c.args.tx c.args.tx c.note-caller.new.self c.meet.new.self c.tx-id.result c.note-caller.result c.record-found.new.caller c.meet.new.other c.tx-id.ensures.tx refl c.note-caller.ensures.same c.note-caller.ensures.note c.record-found.ensures.grown c.meet.ensures.met in
    let new = subst (λ s. HasNewlySeen monitor_part (OfMonitor (Failed (Attempt c.tx-id.result))) s c.record-found.new.caller) c.note-caller.ensures.note c.in-Err.ensures.failed in
    in_doubt o c.args.tx c.meet.new.self c.tx-id.result c.record-found.new.caller c.meet.new.other a c.into_seat.result c.into_seat.ensures new

pub returns-in-Some-clause-line : goal.returns-in-Some-clause-line
returns-in-Some-clause-line g c =
    let x = Commit c.args.tx.tx in
    let w = c.record-found.new.self in
    subst (λ v. HasLineFor x v w) c.hear_of.ensures (line_for x c.hear_of.new.self w c.record-found.ensures.line)

pub returns-in-Ok-clause-line : goal.returns-in-Ok-clause-line
returns-in-Ok-clause-line g c =
    let o = g.J.Run.opening in
    let a = asked o c.args.tx c.args.tx c.note-caller.new.self c.meet.new.self c.tx-id.result c.note-caller.result c.record-found.new.caller c.meet.new.other c.tx-id.ensures.tx refl c.note-caller.ensures.same c.note-caller.ensures.note c.record-found.ensures.grown c.meet.ensures.met in
    let w = c.commit_alone.new.self in
    let own = subst (λ t. HasLineFor (Commit t) c.record-found.new.self w) a.met_is.tx c.commit_alone.ensures.line in
    let x = Commit c.args.tx.tx in
    subst (λ v. HasLineFor x v w) c.hear_of.ensures (line_for_then x c.hear_of.new.self c.record-found.new.self w c.record-found.ensures.line own)

pub returns-clause-line : goal.returns-clause-line
returns-clause-line g c =
    let x = Commit c.args.tx.tx in
    let w = c.record-found.new.self in
    subst (λ v. HasLineFor x v w) c.hear_of.ensures (line_for x c.hear_of.new.self w c.record-found.ensures.line)
