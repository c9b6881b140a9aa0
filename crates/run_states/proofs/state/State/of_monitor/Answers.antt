use Rattle.std.proofs.Common.{sym, ap, subst, ◌∙◌}
use Rattle.run_states.specs.Post.{IsIdle}
use Rattle.run_states.proofs.Asides.{monitor_aside}
use Rattle.run_states.proofs.state.State.of_monitor.Goals as goal

pub returns-clause-state : goal.returns-clause-state
returns-clause-state g c =
    let J = g.J.NodeRun in
    let opening = g.J.Run.opening in
    let devices = g.J.DeviceRun.devices in
    let e = c.in-Err.ensures.err in
    subst (λ s. IsIdle g.D.Disk opening J.faults devices 0 c.into_device-device.result s) (sym e.1)
    (subst (λ x. IsIdle g.D.Disk opening J.faults devices 0 x c.args.seat.sight) (sym (c.into_device-device.ensures ∙ ap (λ t. t.device) e.0))
    (monitor_aside g.D.Disk opening J.found J.faults J.premise devices g.J.MonitorRun.before c.args.seat c.args.trail c.requires.opened))
