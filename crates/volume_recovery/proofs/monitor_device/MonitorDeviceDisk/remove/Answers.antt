use Rattle.std.specs.Prelude.{◌⊎◌, None, IsTrue, OnOk, OnErr}
use Rattle.std.proofs.Common.{◌≡◌}
use Rattle.disk_model.specs.Held.{Elsewhere}
use Rattle.volume_recovery.proofs.MonitorDevices.{cause-first, of-first}
use Rattle.volume_recovery.proofs.monitor_device.MonitorDeviceDisk.remove.Goals as goal

pub returns-clause-others : goal.returns-clause-others
returns-clause-others g c =
    of-first g.D.Disk.tells g.D.Disk.held c.args.self.now.bay.now c.device.result.now c.remove.new.self c.device.ensures.value
    (λ t h k. IsTrue t → Elsewhere c.args.file h k) c.remove.ensures.others

pub returns-clause-ok : goal.returns-clause-ok
returns-clause-ok g c =
    of-first g.D.Disk.tells g.D.Disk.held c.args.self.now.bay.now c.device.result.now c.remove.new.self c.device.ensures.value
    (λ t h k. IsTrue t → OnOk c.remove.result (k c.args.file ≡ None)) c.remove.ensures.ok

pub returns-clause-err : goal.returns-clause-err
returns-clause-err g c =
    of-first g.D.Disk.tells g.D.Disk.held c.args.self.now.bay.now c.device.result.now c.remove.new.self c.device.ensures.value
    (λ t h k. IsTrue t → OnErr c.remove.result ((k c.args.file ≡ h c.args.file) ⊎ (k c.args.file ≡ None))) c.remove.ensures.err

pub returns-clause-cause : goal.returns-clause-cause
returns-clause-cause g c = cause-first g.D.Disk.faults c.args.self.now.bay.now c.device.result.now c.remove.new.self c.remove.result c.device.ensures.value c.remove.ensures.cause
