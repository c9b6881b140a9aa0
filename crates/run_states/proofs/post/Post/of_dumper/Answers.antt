use Rattle.std.proofs.Common.{◌+◌, ℕ, sym, ap, subst, ◌∙◌}
use Rattle.run_states.specs.Post.{IsPost}
use Rattle.online_dump.specs.Filling.{IsDumpFile}
use Rattle.run_states.proofs.post.Post.of_dumper.Goals as goal

pub new-requires : goal.new-requires
new-requires g c =
    let J = g.J.NodeRun in
    let devices = g.J.DeviceRun.devices in
    let opening = g.J.Run.opening in
    let w = c.into_state.result in
    let e = c.into_parts-file.ensures in
    let file = subst IsDumpFile e.file c.lawful.ensures in
    let post = c.dump_post_law.ensures w c.requires e.lawful file e.dumps e.given in
    let number = ap (λ (n : ℕ). 12 + n) (c.into_state.ensures ∙ sym c.number-number.ensures) in
    subst (λ (n : ℕ). IsPost g.D.Disk opening J.found J.faults devices n c.into_device.result c.into_parts-file.result.1) number
    (subst (λ s. IsPost g.D.Disk opening J.found J.faults devices (12 + w.seat.part.number) c.into_device.result s) (sym e.seat)
    (subst (λ x. IsPost g.D.Disk opening J.found J.faults devices (12 + w.seat.part.number) x w.seat.sight) (sym (c.into_device.ensures ∙ ap (λ t. t.device) e.file)) post))
