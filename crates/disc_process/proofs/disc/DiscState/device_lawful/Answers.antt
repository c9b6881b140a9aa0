use Rattle.std.proofs.Common.{◌≡◌, ℕ, ap, sym, subst, ◌∙◌}
use Rattle.node_machine.specs.Parts.{DiscPart}
use Rattle.disc_process.specs.Damage.{HoldsBlocks}
use Rattle.disc_process.specs.Device.{HoldsDevice, device_of}
use Rattle.disc_process.specs.Disc.{DiscView, the_disc}
use Rattle.disc_process.proofs.disc.DiscState.device_lawful.Goals as goal

pub returns-clause-handed_in : goal.returns-clause-handed_in
returns-clause-handed_in g c =
    sym (ap (λ (v : DiscView g.row.D.Denot). v.handed_in) c.self.view_is) ∙ ap (λ (n : ℕ). g.J.DeviceRun.devices (device_of n)) (sym c.self.invariant.seat.number ∙ ap (λ (v : DiscView g.row.D.Denot). v.part.number) c.self.view_is)

pub returns-clause-device : goal.returns-clause-device
returns-clause-device g c =
    let s : DiscPart = the_disc g.J.Run.opening c.self.inside.seat in
    subst (λ (v : DiscView g.row.D.Denot). HoldsDevice g.D.Disk v.handed_in (g.J.NodeRun.faults (device_of v.part.number)) v.blocks.device v.part.events) c.self.view_is
    (subst (λ (n : ℕ). HoldsDevice g.D.Disk (g.J.DeviceRun.devices (device_of c.self.inside.volume)) (g.J.NodeRun.faults (device_of n)) c.self.inside.blocks.device s.events) (sym c.self.invariant.seat.number) c.self.invariant.holds_device)

pub returns-clause-blocks : goal.returns-clause-blocks
returns-clause-blocks g c = subst (λ (v : DiscView g.row.D.Denot). HoldsBlocks g.D.Disk v.handed_in v.blocks) c.self.view_is c.self.invariant.holds_blocks
