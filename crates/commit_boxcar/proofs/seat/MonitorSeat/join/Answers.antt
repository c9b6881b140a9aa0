use Rattle.std.proofs.Common.{subst}
use Rattle.commit_boxcar.specs.Seat.{HasHeard, sight_of}
use Rattle.commit_boxcar.proofs.Seats.{heard}
use Rattle.commit_boxcar.proofs.seat.MonitorSeat.join.Goals as goal

pub returns : goal.returns
returns g c =
    let o = g.J.Run.opening in
    let m = c.join.ensures in
    subst (λ w. HasHeard o g.J.NodeRun.found w (sight_of o c.join.new.seat) c.args.note) c.self.view_is
    (heard o g.J.NodeRun.found c.self.inside.seat c.join.new.seat c.args.note c.self.invariant m.grown m.learned m.told)

pub invariant_of-self : goal.invariant_of-self
invariant_of-self g c =
    let m = c.join.ensures in
    (heard g.J.Run.opening g.J.NodeRun.found c.self.inside.seat c.join.new.seat c.args.note c.self.invariant m.grown m.learned m.told).stepped.is
