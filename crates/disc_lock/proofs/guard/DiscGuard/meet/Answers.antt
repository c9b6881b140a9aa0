use Rattle.std.proofs.Common.{◌≡◌, rules, subst}
use Rattle.chronicle.specs.Seats.{Knows}
use Rattle.node_machine.specs.Node.{node}
use Rattle.node_machine.specs.Parts.{Fact}
use Rattle.disc_process.specs.Disc.{DiscView}
use Rattle.disc_lock.specs.Locks.{held_disc}
use Rattle.disc_lock.proofs.guard.DiscGuard.meet.Goals as goal

pub returns-clause-tells : goal.returns-clause-tells
returns-clause-tells g c =
    let same : c.deref_mut.result.now.state ≡ held_disc c.args.self.now = search rules in
    subst (λ (v : DiscView g.row.D.Denot). (f : Fact) → Knows node g.J.Run.opening v.seat f → Knows node g.J.Run.opening c.meet.new.caller f) same c.meet.ensures.tells
