use Rattle.std.specs.Prelude.{IsTrue, IfOk}
use Rattle.disk_model.specs.Held.{IsLeast}
use Rattle.volume_recovery.proofs.MonitorDevices.{cause-first, of-first}
use Rattle.volume_recovery.proofs.monitor_device.MonitorDeviceDisk.least.Goals as goal

pub returns-clause-least : goal.returns-clause-least
returns-clause-least g c =
    of-first g.D.Disk.tells g.D.Disk.held c.args.self.now.bay.now c.device.result.now c.least.new.self c.device.ensures.value
    (λ t h k. IsTrue t → IfOk c.least.result (IsLeast h)) c.least.ensures.least

pub returns-clause-cause : goal.returns-clause-cause
returns-clause-cause g c = cause-first g.D.Disk.faults c.args.self.now.bay.now c.device.result.now c.least.new.self c.least.result c.device.ensures.value c.least.ensures.cause
