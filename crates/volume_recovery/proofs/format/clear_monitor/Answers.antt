use Rattle.std.proofs.Common.{inl, inr, ⊎_elim}
use Rattle.disk_model.proofs.Devices.{are-later-set, held-set, set-at, set-but}
use Rattle.volume_recovery.proofs.Stops.{failed-format, failed-undamaged}
use Rattle.volume_recovery.proofs.format.clear_monitor.Goals as goal

pub returns-in-Err-clause-cause : goal.returns-in-Err-clause-cause
returns-in-Err-clause-cause g c = λ number failed.
    failed-format g.D.Disk.faults c.args.bay.now 0 c.device.result.now c.unformat.new.device c.device.ensures.value
    c.in-Err.fault (failed-undamaged c.in-Err.fault c.in-Err.ensures.cause.0) (λ _. c.in-Err.ensures.cause.1) c.at.result c.at.ensures number failed

pub returns-in-Ok-clause-gone : goal.returns-in-Ok-clause-gone
returns-in-Ok-clause-gone g c = λ tell.
    (c.unformat.new.device, set-at c.args.bay.now 0 c.device.result.now c.unformat.new.device c.device.ensures.value, c.in-Ok.ensures.gone (tell 0 c.device.result.now c.device.ensures.value))

pub returns-in-Err-clause-left : goal.returns-in-Err-clause-left
returns-in-Err-clause-left g c = λ tell.
    ⊎_elim
    (λ same. inl (held-set g.D.Disk.held c.args.bay.now 0 c.device.result.now c.unformat.new.device c.device.ensures.value same))
    (λ gone. inr (c.unformat.new.device, set-at c.args.bay.now 0 c.device.result.now c.unformat.new.device c.device.ensures.value, gone))
    (c.in-Err.ensures.left (tell 0 c.device.result.now c.device.ensures.value))

pub returns-in-Ok-clause-others : goal.returns-in-Ok-clause-others
returns-in-Ok-clause-others g c = set-but c.args.bay.now 0 c.unformat.new.device

pub returns-in-Ok-clause-keeps : goal.returns-in-Ok-clause-keeps
returns-in-Ok-clause-keeps g c = are-later-set g.D.Disk g.met.D.Disk.same_itself c.args.bay.now 0 c.device.result.now c.unformat.new.device c.device.ensures.value c.unformat.ensures.keeps.device c.unformat.ensures.keeps.tells c.unformat.ensures.keeps.later

pub returns-in-Err-clause-others : goal.returns-in-Err-clause-others
returns-in-Err-clause-others g c = set-but c.args.bay.now 0 c.unformat.new.device

pub returns-in-Err-clause-keeps : goal.returns-in-Err-clause-keeps
returns-in-Err-clause-keeps g c = are-later-set g.D.Disk g.met.D.Disk.same_itself c.args.bay.now 0 c.device.result.now c.unformat.new.device c.device.ensures.value c.unformat.ensures.keeps.device c.unformat.ensures.keeps.tells c.unformat.ensures.keeps.later
