use Rattle.disk_model.proofs.Devices.{are-later-set, set-at, set-but}
use Rattle.volume_recovery.proofs.Stops.{failed-format}
use Rattle.volume_recovery.proofs.format.begin_monitor.Goals as goal

pub returns-in-Ok-clause-told : goal.returns-in-Ok-clause-told
returns-in-Ok-clause-told g c = λ tell.
    (c.format_monitor.new.device, set-at c.args.bay.now 0 c.device.result.now c.format_monitor.new.device c.device.ensures.value, c.in-Ok.ensures.told (tell 0 c.device.result.now c.device.ensures.value))

pub returns-in-Ok-clause-others : goal.returns-in-Ok-clause-others
returns-in-Ok-clause-others g c = set-but c.args.bay.now 0 c.format_monitor.new.device

pub returns-in-Ok-clause-keeps : goal.returns-in-Ok-clause-keeps
returns-in-Ok-clause-keeps g c = are-later-set g.D.Disk g.met.D.Disk.same_itself c.args.bay.now 0 c.device.result.now c.format_monitor.new.device c.device.ensures.value c.format_monitor.ensures.keeps.device c.format_monitor.ensures.keeps.tells c.format_monitor.ensures.keeps.later

pub returns-in-Err-clause-others : goal.returns-in-Err-clause-others
returns-in-Err-clause-others g c = set-but c.args.bay.now 0 c.format_monitor.new.device

pub returns-in-Err-clause-keeps : goal.returns-in-Err-clause-keeps
returns-in-Err-clause-keeps g c = are-later-set g.D.Disk g.met.D.Disk.same_itself c.args.bay.now 0 c.device.result.now c.format_monitor.new.device c.device.ensures.value c.format_monitor.ensures.keeps.device c.format_monitor.ensures.keeps.tells c.format_monitor.ensures.keeps.later

pub returns-in-Err-clause-cause : goal.returns-in-Err-clause-cause
returns-in-Err-clause-cause g c = λ number failed.
    failed-format g.D.Disk.faults c.args.bay.now 0 c.device.result.now c.format_monitor.new.device c.device.ensures.value
    c.in-Err.fault c.in-Err.ensures.undamaged c.in-Err.ensures.cause c.at.result c.at.ensures number failed
