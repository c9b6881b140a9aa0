use Rattle.std.proofs.Common.{[], ◌∷◌, sym, subst}
use Rattle.chronicle.specs.Seats.{part_state}
use Rattle.node_machine.specs.Node.{node}
use Rattle.node_machine.proofs.Appending.{dump_may}
use Rattle.online_dump.specs.Seat.{MayStep, HasStepped, dump_in, sight_of}
use Rattle.online_dump.proofs.Seats.{stepped}
use Rattle.online_dump.proofs.seat.DumpSeat.append.Goals as goal

pub append-requires : goal.append-requires
append-requires g c =
    let o = g.J.Run.opening in
    let v = c.self.inside.seat in
    let may = subst (λ w. MayStep o w c.args.event.now) (sym c.self.view_is) c.requires in
    dump_may o v (dump_in (part_state node o v)) c.args.event.now c.self.invariant.at may.0 may.1

pub returns : goal.returns
returns g c =
    let o = g.J.Run.opening in
    let a = c.append.ensures in
    subst (λ w. HasStepped o g.J.NodeRun.found (c.args.event.now ∷ []) w (sight_of o c.append.new.seat)) c.self.view_is (stepped o g.J.NodeRun.found c.self.inside.seat c.append.new.seat c.args.event.now c.self.invariant a.part a.begins a.mine a.state a.knows)

pub invariant_of-self : goal.invariant_of-self
invariant_of-self g c =
    let a = c.append.ensures in
    (stepped g.J.Run.opening g.J.NodeRun.found c.self.inside.seat c.append.new.seat c.args.event.now c.self.invariant a.part a.begins a.mine a.state a.knows).is
