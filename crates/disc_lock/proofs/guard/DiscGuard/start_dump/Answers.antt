use Rattle.std.specs.Prelude.{IfSome}
use Rattle.std.proofs.Common.{◌≡◌, rules, subst}
use Rattle.chronicle.specs.Seats.{Knows}
use Rattle.node_machine.specs.Node.{node}
use Rattle.node_machine.specs.Parts.Fact.{Started}
use Rattle.disc_process.specs.Disc.{DiscView}
use Rattle.disc_lock.specs.Locks.{held_disc}
use Rattle.disc_lock.proofs.guard.DiscGuard.start_dump.Goals as goal

pub returns-clause-known : goal.returns-clause-known
returns-clause-known g c =
    let same : c.deref_mut.result.now.state ≡ held_disc c.args.self.now = search rules in
    subst (λ (v : DiscView g.row.D.Denot). IfSome c.start_dump.result (λ x. Knows node g.J.Run.opening c.start_dump.new.dumper (Started v.part.number x.0 x.1))) same
    c.start_dump.ensures.known
