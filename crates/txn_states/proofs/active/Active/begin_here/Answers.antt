use Rattle.std.proofs.Common.{ℕ, List, sym, subst}
use Rattle.node_machine.specs.Seats.{IsActive}
use Rattle.txn_states.specs.Txn.{AreDiscs}
use Rattle.txn_states.proofs.Enlisting.{begun_active, no_discs}
use Rattle.txn_states.proofs.active.Active.begin_here.Goals as goal

pub invariant_of-result : goal.invariant_of-result
invariant_of-result g c = record {
  active = subst (λ (xs : List ℕ). IsActive g.J.Run.opening c.append.new.seat c.args.tx xs) (sym c.new.ensures) (begun_active g.J.Run.opening c.args.seat c.append.new.seat c.args.tx c.requires.can c.append.ensures.state);
  discs = subst AreDiscs (sym c.new.ensures) no_discs;
  worker = c.requires.worker;
}
