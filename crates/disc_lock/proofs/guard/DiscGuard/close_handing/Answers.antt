use Rattle.std.specs.Prelude.{OnOk}
use Rattle.std.proofs.Common.{◌≡◌, rules, subst}
use Rattle.chronicle.specs.Seats.{Knows}
use Rattle.node_machine.specs.Made.{last_write}
use Rattle.node_machine.specs.Node.{node}
use Rattle.node_machine.specs.Parts.Fact.{Closed}
use Rattle.disc_process.specs.Disc.{DiscView}
use Rattle.disc_lock.specs.Locks.{held_disc}
use Rattle.disc_lock.proofs.guard.DiscGuard.close_handing.Goals as goal

pub returns-clause-closed : goal.returns-clause-closed
returns-clause-closed g c =
    let same : c.deref_mut.result.now.state ≡ held_disc c.args.self.now = search rules in
    subst (λ (v : DiscView g.row.D.Denot). OnOk c.close_handing.result (Knows node g.J.Run.opening c.close_handing.new.tx.seat (Closed c.args.tx.now.tx v.part.number (last_write v.part.events c.args.tx.now.tx)))) same
    c.close_handing.ensures.closed
