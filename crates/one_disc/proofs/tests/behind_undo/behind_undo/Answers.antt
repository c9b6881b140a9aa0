use Rattle.std.proofs.Common.{ℕ, sym, subst}
use Rattle.chronicle.specs.Seats.{Knows}
use Rattle.tmf_model.specs.declared.transid.Transid.{Transid}
use Rattle.trail_files.specs.declared.monitor_record.MonitorRecord.TheVariants.{Abort}
use Rattle.node_machine.specs.Node.{node}
use Rattle.node_machine.specs.Parts.Fact.{Recorded}
use Rattle.txn_states.specs.Txn.{Txn}
use Rattle.one_disc.proofs.tests.behind_undo.behind_undo.Goals as goal

-- what is recorded of the transaction is so behind the undo
pub ended-ended-requires : goal.ended-ended-requires
ended-ended-requires g c =
    let o = g.J.Run.opening in
    let p = c.requires.recorded in
    let t = c.undo_one.new.tx in
    let kept : Knows node o t.seat (Recorded (Abort c.args.undoing.tx) p.0) = c.undo_one.ensures.txn.seat.kept (Recorded (Abort c.args.undoing.tx) p.0) p.1 in
    subst (λ (u : Txn). (place : ℕ) × Knows node o u.seat (Recorded (Abort u.tx) place)) (sym c.done.ensures)
    (p.0, subst (λ (x : Transid). Knows node o t.seat (Recorded (Abort x) p.0)) (sym c.undo_one.ensures.txn.tx) kept)
