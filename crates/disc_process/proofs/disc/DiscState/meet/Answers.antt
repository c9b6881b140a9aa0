use Rattle.std.proofs.Common.{sym, subst}
use Rattle.chronicle.specs.Seats.{IsUnion, Knows}
use Rattle.node_machine.specs.Node.{node}
use Rattle.disc_process.specs.Disc.{DiscView}
use Rattle.disc_process.specs.Later.{HaveGrown}
use Rattle.disc_process.proofs.disc.DiscState.meet.Goals as goal

pub returns-clause-tells : goal.returns-clause-tells
returns-clause-tells g c = λ f k. c.meet.ensures.tells f (subst (λ (v : DiscView g.row.D.Denot). Knows node g.J.Run.opening v.seat f) (sym c.self.view_is) k)

pub returns-clause-seats : goal.returns-clause-seats
returns-clause-seats g c =
    let o = g.J.Run.opening in
    let m = c.meet.ensures in
    subst (λ (v : DiscView g.row.D.Denot). HaveGrown o v.seat c.meet.new.a c.args.caller.now c.meet.new.b) c.self.view_is
    (record { disc_grown = m.first; disc_learned = m.first_learned; caller_grown = m.second; caller_learned = m.second_learned })

pub returns-clause-union : goal.returns-clause-union
returns-clause-union g c = subst (λ (v : DiscView g.row.D.Denot). IsUnion v.seat.seen c.args.caller.now.seen c.meet.new.b.seen) c.self.view_is c.meet.ensures.union
