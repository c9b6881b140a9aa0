use Rattle.run_states.proofs.Begun.{join_law, monitor_law, name_law}
use Rattle.run_states.proofs.Picking.{pick_law}
use Rattle.run_states.proofs.laws.begun_law.Goals as goal

pub returns-clause-join : goal.returns-clause-join
returns-clause-join g c =
    join_law g.D.Disk g.met.D.Disk.same_itself c.found_law.ensures.over c.found_law.ensures.based c.found_law.ensures.values g.J.Run.opening g.J.NodeRun.found g.J.MonitorRun.before g.J.NodeRun.rules g.J.NodeRun.faults g.J.NodeRun.premise g.J.DeviceRun.devices

pub returns-clause-monitor : goal.returns-clause-monitor
returns-clause-monitor g c =
    monitor_law g.D.Disk g.met.D.Disk.same_itself c.found_law.ensures.over c.found_law.ensures.based c.found_law.ensures.values g.J.Run.opening g.J.NodeRun.found g.J.MonitorRun.before g.J.NodeRun.rules g.J.NodeRun.faults g.J.NodeRun.premise g.J.DeviceRun.devices

pub returns-clause-name : goal.returns-clause-name
returns-clause-name g c =
    name_law g.D.Disk g.met.D.Disk.same_itself c.found_law.ensures.over c.found_law.ensures.based c.found_law.ensures.values g.J.Run.opening g.J.NodeRun.found g.J.MonitorRun.before g.J.NodeRun.rules g.J.NodeRun.faults g.J.NodeRun.premise g.J.DeviceRun.devices

pub returns-clause-pick : goal.returns-clause-pick
returns-clause-pick g c = pick_law g.D.Disk g.met.D.Disk.same_itself
