use Rattle.std.proofs.Common.{length}
use Rattle.run_threads.specs.Hands.{IsTurned}
use Rattle.run_threads.proofs.Hands.{begun_ready, have_worked}
use Rattle.run_threads.proofs.Lists.{zip_each}
use Rattle.run_threads.proofs.turning.take_turns.Goals as goal

pub turn_each-requires-clause-ready : goal.turn_each-requires-clause-ready
turn_each-requires-clause-ready g c κs within = begun_ready (length c.args.work.now.shared.now.discs.now) c.args.work.now.phase.now c.args.hands.now c.requires.begun

pub returns-clause-turned : goal.returns-clause-turned
returns-clause-turned g c = zip_each (IsTurned g.D.Disk g.J.NodeRun.found c.args.work.now.phase.now g.J.DeviceRun.devices) c.args.hands.now c.turn_each.new.hands c.turn_each.ensures.count c.turn_each.ensures.each

pub returns-clause-worked : goal.returns-clause-worked
returns-clause-worked g c =
    have_worked g.D.Disk g.J.NodeRun.found c.args.work.now.phase.now g.J.DeviceRun.devices (length c.args.work.now.shared.now.discs.now) c.args.hands.now c.turn_each.new.hands c.requires.phase c.requires.begun
    (zip_each (IsTurned g.D.Disk g.J.NodeRun.found c.args.work.now.phase.now g.J.DeviceRun.devices) c.args.hands.now c.turn_each.new.hands c.turn_each.ensures.count c.turn_each.ensures.each)
