use Rattle.std.specs.Prelude.{IfErr}
use Rattle.std.proofs.Common.{◌∙◌, arith, subst, sym}
use Rattle.disk_model.specs.Devices.{held_at}
use Rattle.disk_model.specs.Fuse.{device_of}
use Rattle.disk_model.specs.Held.{Leaves}
use Rattle.disk_model.proofs.Devices.{are-later-restarted, are-later-then, each-at, rose-after, tell-then}
use Rattle.volume_recovery.specs.VolumeLoop.{HasFailed}
use Rattle.volume_recovery.proofs.Leaving.{held_at-held, restarted-images, restarted-rest}
use Rattle.volume_recovery.proofs.volumes.recovery.recover.Goals as goal

pub returns-clause-recovered : goal.returns-clause-recovered
returns-clause-recovered g c = λ tell.
    let xs = c.args.bay.now in
    let ys = c.restart.new.self in
    let later = are-later-restarted g.D.Disk 21 xs ys c.restart.ensures.count.0 c.restart.ensures.count.1 c.restart.ensures.each c.restart.ensures.uncut in
    let same_count = c.restart.ensures.count.0 ∙ sym c.restart.ensures.count.1 in
    let images = each-at (λ a b. Leaves (g.D.Disk.held (device_of a)) (g.D.Disk.held (device_of b))) xs ys same_count (λ n a b p q. (c.restart.ensures.each n a b p q).image (tell n a p)) in (
      held_at g.D.Disk.held ys,
      restarted-images g.D.Disk.held xs ys images,
      c.recover_images.ensures.recovered (held_at g.D.Disk.held ys) (tell-then g.D.Disk.tells xs ys later.tells tell) (held_at-held g.D.Disk.held ys) (restarted-rest g.D.Disk.held xs ys images) c.restart.ensures.count.1,
    )

pub returns-clause-keeps : goal.returns-clause-keeps
returns-clause-keeps g c =
    are-later-then g.D.Disk g.met.D.Disk.same_on c.args.bay.now c.restart.new.self c.recover_images.new.bay
    (are-later-restarted g.D.Disk 21 c.args.bay.now c.restart.new.self c.restart.ensures.count.0 c.restart.ensures.count.1 c.restart.ensures.each c.restart.ensures.uncut) c.recover_images.ensures.writes.keeps

pub returns-clause-others : goal.returns-clause-others
returns-clause-others g c = λ number before after off was is.
    c.restart.ensures.each number before after was (sym (c.recover_images.ensures.writes.others number off) ∙ is)

pub returns-clause-cause : goal.returns-clause-cause
returns-clause-cause g c = λ number failed.
    let later = are-later-restarted g.D.Disk 21 c.args.bay.now c.restart.new.self c.restart.ensures.count.0 c.restart.ensures.count.1 c.restart.ensures.each c.restart.ensures.uncut in
    let at = subst (λ r. IfErr r (HasFailed g.D.Disk.faults c.args.config.now c.restart.new.self c.recover_images.new.bay)) failed c.recover_images.ensures.cause in
    (at.0, rose-after g.D.Disk.faults c.args.bay.now c.restart.new.self c.recover_images.new.bay number later.later c.recover_images.ensures.writes.keeps.later at.1)
