use Rattle.std.proofs.Common.{◌<◌, ◌≤◌, length, get_or, take, arith, sym, subst}
use Rattle.std.proofs.lemmas.List.{take_more}
use Rattle.chronicle.specs.Seats.{Knows}
use Rattle.trail_files.specs.declared.monitor_record.MonitorRecord.TheVariants.{Start}
use Rattle.node_machine.specs.Node.{node}
use Rattle.commit_boxcar.specs.Line.{AreTaken, IsAsked}
use Rattle.commit_boxcar.specs.Monitor.{line}
use Rattle.commit_boxcar.proofs.Given.{among_or, retaken, taken_fewer, take_short}
use Rattle.commit_boxcar.proofs.monitor.MonitorState.retake.Goals as goal

pub enter-requires-clause-few : goal.enter-requires-clause-few
enter-requires-clause-few g c =
    let k = c.loop-request.request-index in
    let xs = c.args.requests.now in
    let fewer = taken_fewer (line c.args.self.now) (take k xs) c.loop-request.self.room c.loop-request.invariant.1 in
    let short = take_short k xs in
    let less : k < length xs = c.loop-request-test.true in
    let few = c.requires.few in
    omega (arith, fewer, short, less, few)

pub enter-requires-clause-asked : goal.enter-requires-clause-asked
enter-requires-clause-asked g c =
    let k = c.loop-request.request-index in
    let xs = c.args.requests.now in
    subst (λ m. IsAsked (Knows node g.J.Run.opening m.seat.sight) g.J.NodeRun.found.epoch (get_or xs k (Start 0))) (sym c.loop-request.invariant.0) (c.requires.asked (get_or xs k (Start 0)) (among_or xs k (Start 0) c.loop-request-test.true))

pub loop-request-preserved : goal.loop-request-preserved
loop-request-preserved g c =
    let k = c.loop-request.request-index in
    let xs = c.args.requests.now in
    let old = c.args.self.now in
    let inv = c.loop-request.invariant in
    let next = retaken old c.loop-request.self c.enter.new.self (take k xs) (get_or xs k (Start 0)) c.requires.empty inv.0 inv.1 c.enter.ensures.seat c.enter.ensures.taken in
    (next.0, subst (λ l. AreTaken (line old) l c.enter.new.self.room) (sym (take_more xs k (Start 0) c.loop-request-test.true)) next.1)
