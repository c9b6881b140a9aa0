use Rattle.std.proofs.Common.{subst}
use Rattle.chronicle.specs.Seats.{Knows}
use Rattle.node_machine.specs.Node.{node}
use Rattle.node_machine.specs.Parts.Fact.{Enlisted}
use Rattle.two_discs.proofs.Writing.{can_begin, writing_none}
use Rattle.two_discs.proofs.tests.enlisted.Goals as goal

pub begin-requires : goal.begin-requires
begin-requires g c = can_begin g.J.Run.opening c.args.disc c.args.worker.now c.attempt-tx.result c.requires.opening c.requires.one c.requires.worker c.attempt-tx.ensures

pub returns : goal.returns
returns g c =
    let o = g.J.Run.opening in
    let d = c.args.disc in
    writing_none o d c.args.seat.now c.meet.new.a c.requires.opening c.requires.one c.requires.seat c.meet.ensures.first_learned
    (subst (λ t. Knows node o c.meet.new.a (Enlisted t d)) c.attempt-tx.ensures (c.meet.ensures.told (Enlisted c.attempt-tx.result d) c.enlist.ensures.knows))
