use Rattle.std.proofs.Common.{◌≤◌, ℕ, sym, ap, subst, ◌∙◌}
use Rattle.run_states.specs.Post.{IsPost}
use Rattle.run_states.proofs.Posts.{writer_post, writer_within}
use Rattle.run_states.proofs.post.Post.of_writer.Goals as goal

pub new-requires : goal.new-requires
new-requires g c =
    let J = g.J.NodeRun in
    let w = c.into_state.result in
    let e = c.into_parts-trail.ensures in
    let within = writer_within c.args.writer in
    let number = c.into_state.ensures in
    let post = writer_post g.D.Disk g.J.Run.opening J.found g.J.MonitorRun.before J.rules J.faults J.premise g.J.DeviceRun.devices c.requires w
    (subst (λ (n : ℕ). 1 ≤ n) (sym number) within.0) (subst (λ (n : ℕ). n ≤ 4) (sym number) within.1) e.lawful e.shown in
    subst (λ (n : ℕ). IsPost g.D.Disk g.J.Run.opening J.found J.faults g.J.DeviceRun.devices n c.into_device.result c.into_parts-trail.result.1) (number ∙ sym c.number-number.ensures)
    (subst (λ s. IsPost g.D.Disk g.J.Run.opening J.found J.faults g.J.DeviceRun.devices w.seat.part.number c.into_device.result s) (sym e.seat)
    (subst (λ x. IsPost g.D.Disk g.J.Run.opening J.found J.faults g.J.DeviceRun.devices w.seat.part.number x w.seat.sight) (sym (c.into_device.ensures ∙ ap (λ t. t.device) e.trail)) post))
