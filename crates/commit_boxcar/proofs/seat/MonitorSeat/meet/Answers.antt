use Rattle.std.proofs.Common.{subst}
use Rattle.commit_boxcar.specs.Seat.{HasMet, sight_of}
use Rattle.commit_boxcar.proofs.Seats.{heard}
use Rattle.commit_boxcar.proofs.seat.MonitorSeat.meet.Goals as goal

pub returns : goal.returns
returns g c =
    let o = g.J.Run.opening in
    let m = c.meet.ensures in
    subst (λ w. HasMet o g.J.NodeRun.found w (sight_of o c.meet.new.a) c.args.caller.now c.meet.new.b) c.self.view_is
    (record { heard = heard o g.J.NodeRun.found c.self.inside.seat c.meet.new.a c.args.caller.now c.self.invariant m.first m.first_learned m.told; same = m.same; grown = m.second; learned = m.second_learned })

pub invariant_of-self : goal.invariant_of-self
invariant_of-self g c =
    let m = c.meet.ensures in
    (heard g.J.Run.opening g.J.NodeRun.found c.self.inside.seat c.meet.new.a c.args.caller.now c.self.invariant m.first m.first_learned m.told).stepped.is
