use Rattle.std.proofs.Common.{sym, ap, subst, ◌∙◌}
use Rattle.chronicle.specs.Seats.{Sight}
use Rattle.commit_boxcar.specs.Monitor.{IsOpened}
use Rattle.commit_boxcar.specs.Seat.{IsMonitorAt, MonitorSight, sight_of}
use Rattle.node_machine.specs.declared.event.Event.{Event}
use Rattle.node_run.specs.Building.{JoinsFirst}
use Rattle.node_run.proofs.building.monitor_of.Goals as goal

pub attach-seat-requires : goal.attach-seat-requires
attach-seat-requires g c =
    let may = subst (JoinsFirst g.D.Disk g.J.Run.opening g.J.NodeRun.found g.J.MonitorRun.before g.J.NodeRun.faults g.J.NodeRun.premise g.J.DeviceRun.devices) c.in-Monitor.is c.requires.joins in
    subst (λ (v : Sight Event). IsMonitorAt g.J.Run.opening g.J.NodeRun.found (sight_of g.J.Run.opening v)) (sym c.requires.seat) may.1.at

pub of_monitor-requires-clause-opened : goal.of_monitor-requires-clause-opened
of_monitor-requires-clause-opened g c =
    let may = subst (JoinsFirst g.D.Disk g.J.Run.opening g.J.NodeRun.found g.J.MonitorRun.before g.J.NodeRun.faults g.J.NodeRun.premise g.J.DeviceRun.devices) c.in-Monitor.is c.requires.joins in
    subst
    (λ (v : MonitorSight). IsOpened g.D.Disk g.J.Run.opening g.J.NodeRun.found g.J.MonitorRun.before g.J.NodeRun.faults g.J.NodeRun.premise g.J.DeviceRun.devices v c.in-Monitor.monitor.trail)
    (sym (c.attach-seat.ensures ∙ ap (λ (v : Sight Event). sight_of g.J.Run.opening v) c.requires.seat)) may.1

pub of_monitor-requires-clause-places : goal.of_monitor-requires-clause-places
of_monitor-requires-clause-places g c =
    (subst (JoinsFirst g.D.Disk g.J.Run.opening g.J.NodeRun.found g.J.MonitorRun.before g.J.NodeRun.faults g.J.NodeRun.premise g.J.DeviceRun.devices) c.in-Monitor.is c.requires.joins).0
