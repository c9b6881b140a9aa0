use Rattle.std.proofs.Common.{◌+◌, ℕ, sym, ap, subst, ◌∙◌}
use Rattle.disc_process.specs.Device.{HoldsDevice, device_of}
use Rattle.run_states.specs.Post.{IsPost}
use Rattle.run_states.proofs.Discs.{disc_post}
use Rattle.run_states.proofs.OfDiscs.{is_of_run}
use Rattle.run_states.proofs.post.Post.of_disc.Goals as goal

pub new-requires : goal.new-requires
new-requires g c =
    let J = g.J.NodeRun in
    let devices = g.J.DeviceRun.devices in
    let opening = g.J.Run.opening in
    let D = g.D.Disk in
    let disc = c.args.state in
    let e = c.into_parts-blocks.ensures in
    let blocks = c.into_parts-blocks.result.0 in
    let seat = c.into_parts-blocks.result.1 in
    let same = ap (λ b. b.device) e.blocks in
    let holds = subst (λ x. HoldsDevice D (devices (device_of disc.part.number)) (J.faults (device_of disc.part.number)) x disc.part.events) same e.device in
    let of_run = is_of_run D opening J.found J.faults J.premise devices c.args.number disc c.requires.named c.requires.disc e.lawful holds in
    let post = disc_post D opening J.found J.faults devices disc e.lawful e.shown of_run in
    subst (λ (n : ℕ). IsPost D opening J.found J.faults devices n c.into_device.result seat) (ap (λ (n : ℕ). 4 + n) c.requires.disc.number)
    (subst (λ s. IsPost D opening J.found J.faults devices (4 + disc.part.number) c.into_device.result s) (sym e.seat)
    (subst (λ x. IsPost D opening J.found J.faults devices (4 + disc.part.number) x disc.seat) (sym (c.into_device.ensures ∙ same)) post))
