use Rattle.std.proofs.Common.{sym, subst}
use Rattle.txn_states.specs.Txn.{AreFlushed, Txn}
use Rattle.txn_states.proofs.ending.Ending.flushed.Goals as goal

pub new-requires : goal.new-requires
new-requires g c = record {
  ending = c.self.invariant;
  flushed = subst (λ (t : Txn). AreFlushed g.J.Run.opening t) (sym c.self.view_is) c.requires;
}
