use Rattle.std.proofs.Common.{inl, inr, [], refl, sym, subst}
use Rattle.chronicle.specs.Seats.{HasNewlySeen, Knows, Sight}
use Rattle.tmf_model.specs.declared.transid.Transid.{Transid}
use Rattle.trail_files.specs.declared.monitor_record.MonitorRecord.TheVariants.{Abort}
use Rattle.node_machine.specs.declared.event.By.TheVariants.{Attempt}
use Rattle.node_machine.specs.declared.event.Event.{Event}
use Rattle.node_machine.specs.declared.event.Event.TheVariants.{OfMonitor}
use Rattle.node_machine.specs.declared.event.MonitorEvent.TheVariants.{Failed}
use Rattle.node_machine.specs.Node.{node}
use Rattle.node_machine.specs.Opening.{monitor_part}
use Rattle.node_machine.specs.Parts.Fact.{Recorded}
use Rattle.txn_states.specs.Txn.{Txn}
use Rattle.commit_boxcar.specs.Settled.{HasAborted, IsInDoubt}
use Rattle.backout.specs.Backed.{IsHanging}
use Rattle.backout.proofs.Steps.{advanced_then, stepped_then}
use Rattle.backout.proofs.Undos.{newly_seen, undone_later, undone_on}
use Rattle.backout.proofs.backing.undo_and_record.Goals as goal

pub returns-in-Ok-clause-recorded : goal.returns-in-Ok-clause-recorded
returns-in-Ok-clause-recorded g c =
    let o = g.J.Run.opening in
    let old = c.args.tx in
    let mid = c.undo_everywhere.new.tx in
    let e = c.in-Ok.ended in
    let step = c.undo_everywhere.ensures.txn in
    let aborted : HasAborted o mid e = subst (λ (t : Txn). HasAborted o t e) c.done.ensures c.in-Ok.ensures.aborted in
    record {
      stepped = stepped_then o old mid e.txn step aborted.stepped;
      none = aborted.none;
      undone = undone_later o old mid e.txn aborted.stepped c.in_default.ensures.undone;
      recorded = (aborted.place, subst (λ (t : Transid). Knows node o e.txn.seat (Recorded (Abort t) aborted.place)) step.tx aborted.recorded);
    }

pub returns-in-Err-clause-hanging : goal.returns-in-Err-clause-hanging
returns-in-Err-clause-hanging g c =
    let o = g.J.Run.opening in
    subst (λ (v : Sight Event). IsHanging g.D.Disk o g.J.NodeRun.found.config g.J.DeviceRun.devices c.args.tx v c.hanging_from.result) (sym c.into_seat.ensures)
    (inl (c.in-Err.refusal, c.hanging_from.ensures, c.in-Err.ensures.stuck))

pub returns-in-Err-record_abort-clause-hanging : goal.returns-in-Err-record_abort-clause-hanging
returns-in-Err-record_abort-clause-hanging g c =
    let o = g.J.Run.opening in
    let old = c.args.tx in
    let mid = c.undo_everywhere.new.tx in
    let doubt = c.in-Err-record_abort.field-0 in
    let step = c.undo_everywhere.ensures.txn in
    let is : IsInDoubt o mid [] doubt.tx doubt.seat = subst (λ (t : Txn). IsInDoubt o t [] doubt.tx doubt.seat) c.done.ensures c.in-Err-record_abort.ensures.in_doubt in
    let newly : HasNewlySeen monitor_part (OfMonitor (Failed (Attempt old.tx))) mid.seat doubt.seat = subst (λ (t : Transid). HasNewlySeen monitor_part (OfMonitor (Failed (Attempt t))) mid.seat doubt.seat) step.tx is.failed in
    inr (record {
      named = refl;
      undone = undone_on o old mid.seat doubt.seat is.advanced.begins c.in_default.ensures.undone;
      failed = newly_seen monitor_part (OfMonitor (Failed (Attempt old.tx))) old.seat mid.seat doubt.seat doubt.seat newly.more step.seat.begins refl newly.events;
    })

pub returns-in-Err-record_abort-clause-seat : goal.returns-in-Err-record_abort-clause-seat
returns-in-Err-record_abort-clause-seat g c =
    let o = g.J.Run.opening in
    let mid = c.undo_everywhere.new.tx in
    let doubt = c.in-Err-record_abort.field-0 in
    let is : IsInDoubt o mid [] doubt.tx doubt.seat = subst (λ (t : Txn). IsInDoubt o t [] doubt.tx doubt.seat) c.done.ensures c.in-Err-record_abort.ensures.in_doubt in
    advanced_then o c.args.tx.seat mid.seat doubt.seat c.undo_everywhere.ensures.txn.seat is.advanced
