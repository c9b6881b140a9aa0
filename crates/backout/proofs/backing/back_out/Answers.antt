use Rattle.std.proofs.Common.{inl, [], sym, subst}
use Rattle.chronicle.specs.Seats.{Sight}
use Rattle.trail_files.specs.declared.monitor_record.MonitorRecord.TheVariants.{Abort}
use Rattle.node_machine.specs.declared.event.Event.{Event}
use Rattle.node_machine.specs.Parts.Fact.{Recorded}
use Rattle.txn_states.specs.Txn.{HasAdvanced}
use Rattle.backout.specs.Backed.{HaveLeft, IsHanging}
use Rattle.backout.proofs.Leaving.{left_earlier, released_all}
use Rattle.backout.proofs.Steps.{advanced_then, stepped_then}
use Rattle.backout.proofs.Undos.{somewhere_earlier, undone_later}
use Rattle.backout.proofs.backing.back_out.Goals as goal

pub returns-in-Ok-release_everywhere-clause-backed_out : goal.returns-in-Ok-release_everywhere-clause-backed_out
returns-in-Ok-release_everywhere-clause-backed_out g c =
    let o = g.J.Run.opening in
    let old = c.args.tx in
    let mid = c.in-Ok.ended.txn in
    let new = c.release_everywhere.new.tx.txn in
    let was = c.in-Ok.ensures.recorded in
    let step = c.release_everywhere.ensures.txn in
    let left : HaveLeft old new.seat = left_earlier o old mid new.seat was.stepped c.in-Ok-release_everywhere.ensures.left in
    record {
      none = c.release_everywhere.ensures.place;
      undone = undone_later o old mid new step was.undone;
      recorded = (was.recorded.0, step.seat.kept (Recorded (Abort old.tx) was.recorded.0) was.recorded.1);
      left = left;
      released = released_all o old new (stepped_then o old mid new was.stepped step) left;
    }

pub returns-in-Ok-release_everywhere-clause-txn : goal.returns-in-Ok-release_everywhere-clause-txn
returns-in-Ok-release_everywhere-clause-txn g c = stepped_then g.J.Run.opening c.args.tx c.in-Ok.ended.txn c.release_everywhere.new.tx.txn c.in-Ok.ensures.recorded.stepped c.release_everywhere.ensures.txn

pub returns-in-Err-release_everywhere-clause-hanging : goal.returns-in-Err-release_everywhere-clause-hanging
returns-in-Err-release_everywhere-clause-hanging g c =
    let o = g.J.Run.opening in
    let config = g.J.NodeRun.found.config in
    let devices = g.J.DeviceRun.devices in
    let old = c.args.tx in
    let seat = c.release_everywhere.new.tx.txn.seat in
    let refusal = c.in-Err-release_everywhere.refusal in
    subst (λ (v : Sight Event). IsHanging g.D.Disk o config devices old v c.hanging_from.result) (sym c.into_seat.ensures)
    (inl (refusal, c.hanging_from.ensures, somewhere_earlier g.D.Disk o config devices old c.in-Ok.ended.txn seat refusal c.in-Ok.ensures.recorded.stepped c.in-Err-release_everywhere.ensures.stuck))

pub returns-in-Err-release_everywhere-clause-txn : goal.returns-in-Err-release_everywhere-clause-txn
returns-in-Err-release_everywhere-clause-txn g c =
    let o = g.J.Run.opening in
    let old = c.args.tx in
    subst (λ (v : Sight Event). HasAdvanced o old.seat [] v) (sym c.into_seat.ensures)
    (advanced_then o old.seat c.in-Ok.ended.txn.seat c.release_everywhere.new.tx.txn.seat c.in-Ok.ensures.recorded.stepped.seat c.release_everywhere.ensures.txn.seat)
