use Rattle.std.proofs.Common.{subst}
use Rattle.online_dump.specs.Seat.{HasMet, sight_of}
use Rattle.online_dump.proofs.Seats.{met}
use Rattle.online_dump.proofs.seat.DumpSeat.meet.Goals as goal

pub returns : goal.returns
returns g c =
    let o = g.J.Run.opening in
    let m = c.meet.ensures in
    subst (λ w. HasMet o g.J.NodeRun.found w (sight_of o c.meet.new.a) c.args.caller.now c.meet.new.b) c.self.view_is
    (record { stepped = met o g.J.NodeRun.found c.self.inside.seat c.meet.new.a c.self.invariant m.first m.first_learned; told = m.told; same = m.same; union = m.union; grown = m.second; learned = m.second_learned })

pub invariant_of-self : goal.invariant_of-self
invariant_of-self g c =
    let m = c.meet.ensures in
    (met g.J.Run.opening g.J.NodeRun.found c.self.inside.seat c.meet.new.a c.self.invariant m.first m.first_learned).is
