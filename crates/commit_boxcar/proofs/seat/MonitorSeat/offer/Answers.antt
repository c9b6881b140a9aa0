use Rattle.std.proofs.Common.{[], ◌∷◌, sym, subst}
use Rattle.chronicle.specs.Seats.{part_state}
use Rattle.node_machine.specs.declared.event.MonitorEvent.TheVariants.{Offer}
use Rattle.node_machine.specs.Node.{node}
use Rattle.node_machine.proofs.Appending.{monitor_may}
use Rattle.commit_boxcar.specs.Seat.{MayStep, HasStepped, monitor_in, sight_of}
use Rattle.commit_boxcar.proofs.Seats.{stepped}
use Rattle.commit_boxcar.proofs.seat.MonitorSeat.offer.Goals as goal

pub append-requires : goal.append-requires
append-requires g c =
    let o = g.J.Run.opening in
    let v = c.self.inside.seat in
    let e = Offer c.args.records.now in
    let may = subst (λ w. MayStep o w e) (sym c.self.view_is) c.requires in
    monitor_may o v (monitor_in (part_state node o v)) e c.self.invariant.at may.0 may.1

pub returns : goal.returns
returns g c =
    let o = g.J.Run.opening in
    let e = Offer c.args.records.now in
    let a = c.append.ensures in
    subst (λ w. HasStepped o g.J.NodeRun.found (e ∷ []) w (sight_of o c.append.new.seat)) c.self.view_is (stepped o g.J.NodeRun.found c.self.inside.seat c.append.new.seat e c.self.invariant a.part a.begins a.mine a.state a.knows)

pub invariant_of-self : goal.invariant_of-self
invariant_of-self g c =
    let e = Offer c.args.records.now in
    let a = c.append.ensures in
    (stepped g.J.Run.opening g.J.NodeRun.found c.self.inside.seat c.append.new.seat e c.self.invariant a.part a.begins a.mine a.state a.knows).is
