use Rattle.std.specs.Prelude.{Some, IsTrue, OnOk, OnErr}
use Rattle.std.proofs.Common.{◌≡◌, length}
use Rattle.disk_model.specs.Held.{Elsewhere, IfThere, IsThere, Tears, written}
use Rattle.volume_recovery.proofs.MonitorDevices.{cause-first, of-first}
use Rattle.volume_recovery.proofs.monitor_device.MonitorDeviceDisk.write.Goals as goal

pub returns-clause-others : goal.returns-clause-others
returns-clause-others g c =
    of-first g.D.Disk.tells g.D.Disk.held c.args.self.now.bay.now c.device.result.now c.write.new.self c.device.ensures.value
    (λ t h k. IsTrue t → Elsewhere c.args.file h k) c.write.ensures.others

pub returns-clause-ok : goal.returns-clause-ok
returns-clause-ok g c =
    of-first g.D.Disk.tells g.D.Disk.held c.args.self.now.bay.now c.device.result.now c.write.new.self c.device.ensures.value
    (λ t h k. IsTrue t → OnOk c.write.result (IfThere h c.args.file (λ f. k c.args.file ≡ Some (written c.args.at c.args.bytes.now f)))) c.write.ensures.ok

pub returns-clause-err : goal.returns-clause-err
returns-clause-err g c =
    of-first g.D.Disk.tells g.D.Disk.held c.args.self.now.bay.now c.device.result.now c.write.new.self c.device.ensures.value
    (λ t h k. IsTrue t → OnErr c.write.result (IfThere h c.args.file (λ f. IsThere k c.args.file (Tears c.args.at (length c.args.bytes.now) f)))) c.write.ensures.err

pub returns-clause-cause : goal.returns-clause-cause
returns-clause-cause g c = cause-first g.D.Disk.faults c.args.self.now.bay.now c.device.result.now c.write.new.self c.write.result c.device.ensures.value c.write.ensures.cause
