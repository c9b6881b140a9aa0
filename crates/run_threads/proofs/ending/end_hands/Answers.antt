use Rattle.std.proofs.Common.{arith}
use Rattle.run_threads.proofs.Closed.{all_ended, all_there, outcomes_fit, parts_back, seats_fit}
use Rattle.run_threads.proofs.ending.end_hands.Goals as goal

pub end_each-requires-clause-seats : goal.end_each-requires-clause-seats
end_each-requires-clause-seats g c = seats_fit g.D.Disk g.J.NodeRun.found c.args.phase.now g.J.DeviceRun.devices c.args.crew.hands.items c.requires.worked c.args.crew.seats c.requires.idle

pub end_each-requires-clause-outcomes : goal.end_each-requires-clause-outcomes
end_each-requires-clause-outcomes g c = outcomes_fit g.D.Disk g.J.NodeRun.found c.args.phase.now g.J.DeviceRun.devices c.args.crew.hands.items c.requires.worked c.args.outcomes.now c.requires.room

pub returns-clause-ended : goal.returns-clause-ended
returns-clause-ended g c =
    let e = c.end_each.ensures in
    all_ended g.D.Disk g.J.NodeRun.found c.args.phase.now g.J.DeviceRun.devices c.args.crew.hands.items c.requires.worked c.knowing_law.ensures.first c.args.crew.seats c.end_each.new.seats.items c.args.outcomes.now c.end_each.new.outcomes.items
    c.args.home.now c.end_each.new.home c.requires.idle e.seats c.requires.room e.outcomes c.requires.rest e.merged

pub returns-clause-parts : goal.returns-clause-parts
returns-clause-parts g c = parts_back g.D.Disk g.J.NodeRun.found c.args.phase.now g.J.DeviceRun.devices c.args.crew.hands.items c.requires.worked c.args.home.now c.end_each.new.home c.end_each.ensures.merged

pub returns-clause-seats : goal.returns-clause-seats
returns-clause-seats g c =
    let many = all_there g.D.Disk g.J.NodeRun.found c.args.phase.now g.J.DeviceRun.devices c.args.crew.hands.items c.requires.worked c.args.crew.seats.items c.end_each.new.seats.items c.requires.idle.many c.end_each.ensures.seats in
    let ok = c.end_each.new.seats.ok in
    (omega (arith, many, ok.0), c.end_each.ensures.room)
