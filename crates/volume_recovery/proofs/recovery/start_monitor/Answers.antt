use Rattle.std.proofs.Common.{IsTrue, inr, ◌++◌, ◌∷◌, [], ◌∙◌, ap, refl, sym, subst}
use Rattle.trail_files.specs.Content.{with_batch}
use Rattle.trail_files.specs.declared.monitor_record.MonitorRecord.TheVariants.{Start}
use Rattle.trail_files.specs.MonitorRecord.{monitor_format}
use Rattle.volume_recovery.proofs.Batches.{batch_behind, unlanded_ends, unlanded_images}
use Rattle.volume_recovery.proofs.MonitorDevices.{failed-call}
use Rattle.volume_recovery.proofs.Orders.{some-behind}
use Rattle.volume_recovery.proofs.recovery.start_monitor.Goals as goal

pub returns-in-Ok-clause-rests : goal.returns-in-Ok-clause-rests
returns-in-Ok-clause-rests g c = λ list tells has order.
    let trail = c.land.new.trail in
    let batch = Start c.args.epoch ∷ [] in
    let landed = c.in-Ok.ensures.holds has.content has.holds has.rests.pending (λ _. ap (λ l. monitor_format.in_order (l ++ batch)) has.rests.landed ∙ order) in
    c.every_image.ensures.at_rest trail (with_batch trail.file batch has.content) (list ++ batch) landed (subst IsTrue (sym c.land.ensures.keeps.device.tells) tells)
    (batch_behind monitor_format has.content list batch has.rests trail.file) (some-behind list c.args.epoch)

pub returns-in-Ok-clause-kept : goal.returns-in-Ok-clause-kept
returns-in-Ok-clause-kept g c = λ list image tells has ends order left.
    inr (c.every_image.ensures.resting c.land.new.trail.rules _ image (list ++ Start c.args.epoch ∷ []) (returns-in-Ok-clause-rests g c list tells has order) left).spells

pub returns-in-Err-clause-kept : goal.returns-in-Err-clause-kept
returns-in-Err-clause-kept g c = λ list image tells has ends order left.
    let trail = c.land.new.trail in
    let batch = Start c.args.epoch ∷ [] in
    let stopped = c.in-Err.ensures.holds has.content has.holds has.rests.pending (λ _. ap (λ l. monitor_format.in_order (l ++ batch)) has.rests.landed ∙ order) in
    let may_end = unlanded_ends monitor_format has.content list batch has.rests stopped.0 stopped.1 ends (some-behind list c.args.epoch) in
    unlanded_images monitor_format has.content list batch has.rests stopped.0 stopped.1 image
    (c.every_image.ensures.images trail stopped.0 image stopped.2 (subst IsTrue (sym c.land.ensures.keeps.device.tells) tells) left may_end.0 may_end.1)

pub returns-in-Err-clause-cause : goal.returns-in-Err-clause-cause
returns-in-Err-clause-cause g c = λ number failed.
    failed-call g.D.Disk g.met.D.Disk.same_itself c.args.monitor.now.device.bay.now c.land.new.trail.device.bay.now c.land.ensures.keeps.device.device.1 (c.in-Err.ensures.cause.failed refl) number failed
