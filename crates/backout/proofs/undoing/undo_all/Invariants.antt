use Rattle.std.proofs.Common.{[], length}
use Rattle.node_machine.specs.Made.{changes_left}
use Rattle.txn_states.specs.Txn.{HasStepped}
use Rattle.disc_process.specs.Later.{IsLaterDisc}
use Rattle.disc_lock.specs.Locks.{held_disc}
use Rattle.backout.proofs.undoing.undo_all.Given as goal

abbrev pub invariant-loop : goal.invariant-loop
invariant-loop g l = record {
  later : IsLaterDisc g.J.Run.opening (held_disc l.fn.disc) (held_disc l.disc);
  stepped : HasStepped g.J.Run.opening l.fn.tx [] l.tx;
}

abbrev pub decreases-loop : goal.decreases-loop
decreases-loop g l = length (changes_left (held_disc l.disc).part.events l.tx.tx)
