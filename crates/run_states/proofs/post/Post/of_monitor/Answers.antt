use Rattle.std.proofs.Common.{sym, ap, subst, ◌∙◌}
use Rattle.run_states.specs.Post.{IsPost}
use Rattle.run_states.proofs.Posts.{monitor_post}
use Rattle.run_states.proofs.post.Post.of_monitor.Goals as goal

pub new-requires : goal.new-requires
new-requires g c =
    let J = g.J.NodeRun in
    let m = c.into_state.result in
    let e = c.into_parts-trail.ensures in
    let post = monitor_post g.D.Disk g.J.Run.opening J.found g.J.MonitorRun.before J.rules J.faults J.premise g.J.DeviceRun.devices c.requires m e.lawful e.shown in
    subst (λ s. IsPost g.D.Disk g.J.Run.opening J.found J.faults g.J.DeviceRun.devices 0 c.into_device.result s) (sym e.seat)
    (subst (λ x. IsPost g.D.Disk g.J.Run.opening J.found J.faults g.J.DeviceRun.devices 0 x m.seat.sight) (sym (c.into_device.ensures ∙ ap (λ t. t.device) e.trail)) post)
