use Rattle.std.proofs.Common.{◌<◌, length, arith}
use Rattle.disk_model.specs.Devices.{FuseRestarts}
use Rattle.disk_model.specs.Fuse.{CutsNone}
use Rattle.disk_model.proofs.Devices.{fuse-restarts}
use Rattle.disk_model.proofs.Sweeping.{swept-set, rest-set}
use Rattle.disk_model.proofs.bay.restart_each.Goals as goal

pub loop-fuse-preserved : goal.loop-fuse-preserved
loop-fuse-preserved g c =
    let e = c.restart.ensures in
    let so_far = c.loop-fuse.invariant in
    let fuses = c.loop-fuse.fuses in
    let at = c.loop-fuse.fuse-index in
    let new = c.restart.new.self in
    let within : at < length fuses = omega (arith, c.loop-fuse-test.true, c.loop-fuse.auto.fuses) in (
      swept-set (FuseRestarts g.D.Disk) _ fuses at c.fuse-item.result new within so_far.0 so_far.2 (fuse-restarts g.D.Disk _ new e.tells e.device e.image e.later),
      swept-set CutsNone _ fuses at c.fuse-item.result new within so_far.1 so_far.2 e.uncut,
      rest-set _ fuses at new so_far.2,
    )
