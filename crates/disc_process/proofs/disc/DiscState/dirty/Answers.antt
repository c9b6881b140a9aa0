use Rattle.std.proofs.Common.{ℕ, ◌<◌, subst}
use Rattle.std.specs.Prelude.{IfNone, IfSome}
use Rattle.disc_process.specs.Device.{device_of}
use Rattle.disc_process.specs.Disc.{DiscView, the_disc}
use Rattle.disc_process.specs.Draw.{IsClean, IsFirstDirty}
use Rattle.disc_process.proofs.Caches.{first_dirty, none_dirty}
use Rattle.disc_process.proofs.disc.DiscState.dirty.Goals as goal

pub returns-clause-none : goal.returns-clause-none
returns-clause-none g c =
    subst (λ (v : DiscView g.row.D.Denot). IfNone c.dirty.result ((f n : ℕ) → n < 256 → IsClean v.blocks f n)) c.self.view_is
    (none_dirty c.self.inside.blocks c.dirty.result (λ f n h. (c.dirty.ensures.least f n h).1))

pub returns-clause-some : goal.returns-clause-some
returns-clause-some g c =
    let kept = c.self.invariant.keeps in
    let d = c.dirty.ensures in
    subst (λ (v : DiscView g.row.D.Denot). IfSome c.dirty.result (λ n. IsFirstDirty v n.file n.number)) c.self.view_is
    (first_dirty (record { seat = c.self.inside.seat; part = the_disc g.J.Run.opening c.self.inside.seat; blocks = c.self.inside.blocks; handed_in = g.J.DeviceRun.devices (device_of c.self.inside.volume) }) kept.only kept.files d.valid.cached c.dirty.result d.some (λ f n h. d.least f n h))
