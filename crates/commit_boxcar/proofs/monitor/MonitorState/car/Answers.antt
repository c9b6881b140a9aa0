use Rattle.std.proofs.Common.{◌++◌, length, arith, length-append}
use Rattle.chronicle.specs.Seats.{Knows}
use Rattle.node_machine.specs.Monitor.{recorded, offered_car}
use Rattle.node_machine.specs.Node.{node}
use Rattle.commit_boxcar.specs.Line.{line_of}
use Rattle.commit_boxcar.proofs.Cars.{err_anyway}
use Rattle.commit_boxcar.proofs.Given.{refused_first, refused_land, refused_offer, still_next}
use Rattle.commit_boxcar.proofs.Lines.{line_short}
use Rattle.commit_boxcar.proofs.monitor.MonitorState.car.Goals as goal

pub returns-in_err-land_offered-clause-stopped : goal.returns-in_err-land_offered-clause-stopped
returns-in_err-land_offered-clause-stopped g c = err_anyway c.from_residual.result (refused_first c.args.by c.args.self.now c.land_offered.new.self c.args.requests.now c.in_err-land_offered.ensures.err c.land_offered.ensures.requests.0)

pub overflow_add-first : goal.overflow_add-first
overflow_add-first g c =
    let n = g.J.NodeRun in
    let w = c.self.inside in
    let i = c.self.invariant in
    let events = w.seat.part.events in
    let few = line_short (Knows node g.J.Run.opening w.seat.sight) n.found.epoch n.found.places (line_of w.seat.part w.room.requests) w.room.last i.3 in
    let long = length-append (recorded events) (offered_car events ++ w.room.requests) in
    let short = i.2.short in
    let a = i.0 in
    omega (arith, few, long, short, a)

pub write-requires-clause-next : goal.write-requires-clause-next
write-requires-clause-next g c = still_next g.J.Run.opening g.J.NodeRun.found.epoch c.args.self.now c.land_offered.new.self c.args.requests.now c.in_ok-land_offered.ensures.ok c.land_offered.ensures.knows c.requires

pub returns-in_err-write-clause-stopped : goal.returns-in_err-write-clause-stopped
returns-in_err-write-clause-stopped g c =
    err_anyway c.from_residual-in_err-write.result
    (refused_offer c.args.by c.args.self.now c.land_offered.new.self c.write.new.self c.args.requests.now c.in_ok-land_offered.ensures.ok c.land_offered.ensures.requests.0 c.in_err-write.ensures.err c.in_err-write.ensures.room)

pub returns-in_err-land-clause-stopped : goal.returns-in_err-land-clause-stopped
returns-in_err-land-clause-stopped g c =
    err_anyway c.from_residual-in_err-land.result
    (refused_land c.args.by c.args.self.now c.land_offered.new.self c.write.new.self c.land.new.self c.args.requests.now c.in_ok-land_offered.ensures.ok c.land_offered.ensures.requests.0 c.in_ok-write.ensures.ok c.in_ok-write.ensures.taken c.in_err-land.ensures.err c.land.ensures.requests.0)
