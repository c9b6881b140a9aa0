use Rattle.std.proofs.Common.{sym, subst}
use Rattle.volume_recovery.specs.VolumeLoop.{IsPlain}
use Rattle.volume_recovery.proofs.MonitorDevices.{failed-first}
use Rattle.volume_recovery.proofs.Refusals.{plain-undamaged}
use Rattle.volume_recovery.proofs.volumes.recovery.read_monitor.Goals as goal

pub returns-in-Ok-clause-told : goal.returns-in-Ok-clause-told
returns-in-Ok-clause-told g c = λ image is tells. c.in-Ok.ensures.told is.list tells is.reads

pub returns-in-Err-clause-told : goal.returns-in-Err-clause-told
returns-in-Err-clause-told g c = λ image is tells. subst IsPlain (sym c.at.ensures) (plain-undamaged 0 c.in-Err.fault (c.in-Err.ensures.undamaged is.list tells is.reads))

pub returns-in-Err-clause-cause : goal.returns-in-Err-clause-cause
returns-in-Err-clause-cause g c = λ number failed.
    failed-first g.D.Disk g.met.D.Disk.same_itself c.args.monitor.now.device.bay.now c.read_records.new.monitor.device.bay.now c.read_records.ensures.keeps.device.device.1
    c.in-Err.fault c.in-Err.ensures.cause c.at.result c.at.ensures number failed
