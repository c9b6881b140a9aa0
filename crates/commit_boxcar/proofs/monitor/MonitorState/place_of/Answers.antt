use Rattle.std.specs.Prelude.{None}
use Rattle.std.proofs.Common.{subst}
use Rattle.chronicle.specs.Seats.{Knows}
use Rattle.node_machine.specs.Monitor.{recorded, offered_car, StandsAt}
use Rattle.node_machine.specs.Node.{node}
use Rattle.commit_boxcar.specs.Cars.{IsPlaceOf}
use Rattle.commit_boxcar.specs.Line.{line_of}
use Rattle.commit_boxcar.proofs.Lines.{none_placed, place_stands, stands_landed, stands_behind}
use Rattle.commit_boxcar.proofs.monitor.MonitorState.place_of.Goals as goal

pub returns-in-None : goal.returns-in-None
returns-in-None g c =
    let n = g.J.NodeRun in
    let w = c.self.inside in
    subst (λ v. IsPlaceOf v c.args.request None) c.self.view_is (λ idle may.
    none_placed (Knows node g.J.Run.opening w.seat.sight) n.found.epoch n.found.places (line_of w.seat.part w.room.requests) w.room.last c.self.invariant.3 c.args.request may c.in-None.ensures)

pub returns-in-Some : goal.returns-in-Some
returns-in-Some g c =
    let n = g.J.NodeRun in
    let w = c.self.inside in
    let i = c.self.invariant in
    let stands = place_stands (Knows node g.J.Run.opening w.seat.sight) n.found.epoch n.found.places (line_of w.seat.part w.room.requests) w.room.last i.3 c.args.request c.in-Some.place c.in-Some.ensures in
    subst (λ v. StandsAt v.seat.part c.args.request c.in-Some.place) c.self.view_is
    (stands_landed w.seat.part n.found.places w.places c.in-Some.place _ c.args.request i.2.at.places i.0 c.if-place-self.true stands)

pub returns-in-Some-2 : goal.returns-in-Some-2
returns-in-Some-2 g c =
    let n = g.J.NodeRun in
    let w = c.self.inside in
    let i = c.self.invariant in
    let events = w.seat.part.events in
    let stands = place_stands (Knows node g.J.Run.opening w.seat.sight) n.found.epoch n.found.places (line_of w.seat.part w.room.requests) w.room.last i.3 c.args.request c.in-Some.place c.in-Some.ensures in
    subst (λ v. IsPlaceOf v c.args.request None) c.self.view_is (λ idle may.
    stands_behind n.found.places w.places c.in-Some.place (recorded events) (offered_car events) w.room.requests c.args.request i.0 c.if-place-self.false idle.none idle.empty stands)
