use Rattle.std.proofs.Common.{ℕ, sym, subst}
use Rattle.chronicle.specs.Seats.{Knows}
use Rattle.node_machine.specs.Node.{node}
use Rattle.node_machine.specs.Parts.Fact.{Recorded}
use Rattle.trail_files.specs.declared.monitor_record.MonitorRecord.TheVariants.{Abort}
use Rattle.txn_states.specs.Txn.{Txn}
use Rattle.txn_states.proofs.undone.Undone.ended.Goals as goal

pub new-requires : goal.new-requires
new-requires g c = record {
  ended = (c.self.invariant.decided, subst (λ (t : Txn). (place : ℕ) × Knows node g.J.Run.opening t.seat (Recorded (Abort t.tx) place)) (sym c.self.view_is) c.requires);
  discs = c.self.invariant.discs;
}
