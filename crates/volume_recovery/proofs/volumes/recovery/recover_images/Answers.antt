use Rattle.std.specs.Prelude.{Err, Ok, IfErr, length}
use Rattle.std.proofs.Common.{inl, ◌≡◌, ◌∙◌, ap, subst, sym, arith}
use Rattle.disk_model.specs.Devices.{DevicesTell, held_at}
use Rattle.trail_files.specs.MonitorRecord.{monitor_format}
use Rattle.trail_files.specs.Scanned.{TellsOnly}
use Rattle.trail_files.specs.Text.{Spells}
use Rattle.trail_replay.specs.Rules.{rules_of}
use Rattle.trail_replay.specs.Texts.{IsMonitorDamage}
use Rattle.volume_recovery.specs.Node.{IsAtRest}
use Rattle.volume_recovery.specs.VolumeAnswers.{IsRefusalWithVolumes, RecoversWithVolumes}
use Rattle.volume_recovery.specs.VolumeLoop.{HasFailed, WritesBay}
use Rattle.volume_recovery.proofs.Leaving.{rests-at_rest}
use Rattle.volume_recovery.proofs.Refusals.{refusal-monitor}
use Rattle.volume_recovery.proofs.Stops.{if-err}
use Rattle.volume_recovery.proofs.VolumeBay.{failed-after, read-held, read-tell, trail-failed, writes-read, writes-then}
use Rattle.volume_recovery.proofs.VolumeOpened.{as-many, held-bay, reads-lent, rose-lent, tells-bay}
use Rattle.volume_recovery.proofs.VolumeReading.{refusal-before}
use Rattle.volume_recovery.proofs.VolumeWriting.{Laws, read-refused}
use Rattle.volume_recovery.proofs.volumes.recovery.recover_images.Goals as goal

pub returns-in-Err-clause-recovered : goal.returns-in-Err-clause-recovered
returns-in-Err-clause-recovered g c = λ images tell held rest count.
    let config = c.args.config.now in
    let xs = c.args.bay.now in
    let same = sym c.new-device.ensures.same_reference ∙ c.in-Err.ensures.keeps.device.0 ∙ sym (ap (λ d. d.bay.ghost_name) c.handed_back-bay.ensures) in
    let final = sym (c.bay-1.given.1 same ∙ ap (λ d. d.bay.now) c.handed_back-bay.ensures) in
    let laws : Laws = record {
      recovering = c.recovering_law.ensures;
      recovered = c.recovered_law.ensures;
      volume = c.resting_law.ensures.volume;
      dump = c.resting_law.ensures.dump;
      image = c.at_rest.ensures.image;
      audit = λ rules before image records rests leaves. c.every_image.ensures.resting rules before image records rests leaves;
      monitor = λ before image records rests leaves. c.every_image-2.ensures.resting (rules_of c.args.config.now 0) before image records rests leaves;
      one_audit = λ config images trail xs ys p q. c.one_spelling.ensures.spelled (rules_of config trail) (images trail) xs ys p q;
      one_list = λ images xs ys p q. c.one_spelling-2.ensures.spelled (rules_of c.args.config.now 0) (images 0) xs ys p q;
      text = record {
        monitor = λ image list damage spells damaged. c.one_spelling-2.ensures.undamaged (rules_of c.args.config.now 0) image list damage spells damaged;
        audit = λ config trail image audit damage spells damaged. c.one_spelling.ensures.undamaged (rules_of config trail) image audit damage spells damaged;
        one_monitor = λ image x y a b. c.one_spelling-2.ensures.damage (rules_of c.args.config.now 0) image x y a b;
        one_audit = λ config trail image x y a b. c.one_spelling.ensures.damage (rules_of config trail) image x y a b;
      };
      spelled = c.spelled_volume_law.ensures.fine;
      contents = c.spelled_volume_law.ensures.spelled;
    } in
    let reads = reads-lent g.D.Disk g.met.D.Disk.same_itself config xs c.new-device.result c.in-Err.refused.0 c.new-device.ensures.bay c.in-Err.ensures.keeps c.in-Err.ensures.same in
    let first : held_at g.D.Disk.held c.new-device.result.bay.now 0 ≡ images 0 = ap (λ bay. held_at g.D.Disk.held bay 0) c.new-device.ensures.bay ∙ held-bay g.D.Disk.held xs images count held in
    let told = tells-bay g.D.Disk.tells c.new-device.result.bay.now (ap length c.new-device.ensures.bay ∙ count) (subst (DevicesTell g.D.Disk.tells) (sym c.new-device.ensures.bay) tell) in
    subst (RecoversWithVolumes g.D.Disk.held config images (Err c.at.result)) final
    (read-refused g.D.Disk config images xs laws c.requires count rest c.in-Err.refused.0.bay.now reads held c.at.result
    (subst (IsRefusalWithVolumes config images) (sym c.at.ensures)
    (refusal-before config images _ (refusal-monitor config images c.in-Err.refused.1 (subst (λ h. TellsOnly (IsMonitorDamage h) c.in-Err.refused.1) first (c.in-Err.ensures.damage.damaged told))))))

pub returns-in-Err-clause-writes : goal.returns-in-Err-clause-writes
returns-in-Err-clause-writes g c =
    let xs = c.args.bay.now in
    let same = sym c.new-device.ensures.same_reference ∙ c.in-Err.ensures.keeps.device.0 ∙ sym (ap (λ d. d.bay.ghost_name) c.handed_back-bay.ensures) in
    let final = sym (c.bay-1.given.1 same ∙ ap (λ d. d.bay.now) c.handed_back-bay.ensures) in
    subst (WritesBay g.D.Disk c.args.config.now xs) final
    (writes-read g.D.Disk c.args.config.now xs c.in-Err.refused.0.bay.now
    (reads-lent g.D.Disk g.met.D.Disk.same_itself c.args.config.now xs c.new-device.result c.in-Err.refused.0 c.new-device.ensures.bay c.in-Err.ensures.keeps c.in-Err.ensures.same))

pub returns-in-Err-clause-cause : goal.returns-in-Err-clause-cause
returns-in-Err-clause-cause g c =
    let xs = c.args.bay.now in
    let same = sym c.new-device.ensures.same_reference ∙ c.in-Err.ensures.keeps.device.0 ∙ sym (ap (λ d. d.bay.ghost_name) c.handed_back-bay.ensures) in
    let final = sym (c.bay-1.given.1 same ∙ ap (λ d. d.bay.now) c.handed_back-bay.ensures) in
    let ys = c.in-Err.refused.0.bay.now in
    let it = c.in-Err.refused.1 in
    subst (λ zs. HasFailed g.D.Disk.faults c.args.config.now xs zs c.at.result) final
    (subst (HasFailed g.D.Disk.faults c.args.config.now xs ys) (sym c.at.ensures)
    (trail-failed g.D.Disk.faults c.args.config.now xs ys 0 it (inl (omega arith))
    (λ failed. rose-lent g.D.Disk g.met.D.Disk.same_itself xs c.new-device.result c.in-Err.refused.0 c.new-device.ensures.bay c.in-Err.ensures.keeps (c.in-Err.ensures.cause failed))))

pub returns-in-Ok-clause-recovered : goal.returns-in-Ok-clause-recovered
returns-in-Ok-clause-recovered g c = λ images tell held rest count.
    let config = c.args.config.now in
    let xs = c.args.bay.now in
    let same = sym c.new-device.ensures.same_reference ∙ c.in-Ok.ensures.keeps.device.0 ∙ sym c.recover_opened-recovered.ensures.same_bay ∙ sym (ap (λ d. d.bay.ghost_name) c.into_device-bay.ensures) in
    let final = sym (c.bay-in-Ok-1.given.1 same ∙ ap (λ d. d.bay.now) c.into_device-bay.ensures) in
    let ys = c.in-Ok.opened.device.bay.now in
    let reads = reads-lent g.D.Disk g.met.D.Disk.same_itself config xs c.new-device.result c.in-Ok.opened.device c.new-device.ensures.bay c.in-Ok.ensures.keeps c.in-Ok.ensures.same in
    let first : held_at g.D.Disk.held c.new-device.result.bay.now 0 ≡ images 0 = ap (λ bay. held_at g.D.Disk.held bay 0) c.new-device.ensures.bay ∙ held-bay g.D.Disk.held xs images count held in
    let told = tells-bay g.D.Disk.tells c.new-device.result.bay.now (ap length c.new-device.ensures.bay ∙ count) (subst (DevicesTell g.D.Disk.tells) (sym c.new-device.ensures.bay) tell) in
    let list = c.in-Ok.ensures.damage.spelled told in
    let spells = subst (λ h. Spells monitor_format h list.0) first list.1 in
    let landed = c.in-Ok.ensures.holds list.0 (λ _. rests-at_rest monitor_format _ list.0 (subst IsAtRest (sym first) (rest 0)) list.1) in
    subst (RecoversWithVolumes g.D.Disk.held config images c.recover_opened-recovered.result) final
    (c.recover_opened-recovered.ensures.recovered images (read-tell g.D.Disk config xs ys reads tell) (read-held g.D.Disk config xs ys images reads held) rest
    (as-many _ xs ys reads.keeps.devices ∙ count)
    (record { list = list.0; spells = spells; has = record { content = landed.0; rests = landed.1; holds = landed.2 }; reads = c.in-Ok.ensures.reads list.0 told list.1 }))

pub returns-in-Ok-clause-writes : goal.returns-in-Ok-clause-writes
returns-in-Ok-clause-writes g c =
    let config = c.args.config.now in
    let xs = c.args.bay.now in
    let same = sym c.new-device.ensures.same_reference ∙ c.in-Ok.ensures.keeps.device.0 ∙ sym c.recover_opened-recovered.ensures.same_bay ∙ sym (ap (λ d. d.bay.ghost_name) c.into_device-bay.ensures) in
    let final = sym (c.bay-in-Ok-1.given.1 same ∙ ap (λ d. d.bay.now) c.into_device-bay.ensures) in
    let ys = c.in-Ok.opened.device.bay.now in
    let zs = c.recover_opened-recovered.new.monitor.device.bay.now in
    let reads = reads-lent g.D.Disk g.met.D.Disk.same_itself config xs c.new-device.result c.in-Ok.opened.device c.new-device.ensures.bay c.in-Ok.ensures.keeps c.in-Ok.ensures.same in
    subst (WritesBay g.D.Disk config xs) final
    (writes-then g.D.Disk config g.met.D.Disk.same_on xs ys zs (writes-read g.D.Disk config xs ys reads) c.recover_opened-recovered.ensures.writes)

pub returns-in-Ok-clause-cause : goal.returns-in-Ok-clause-cause
returns-in-Ok-clause-cause g c =
    let config = c.args.config.now in
    let faults = g.D.Disk.faults in
    let xs = c.args.bay.now in
    let same = sym c.new-device.ensures.same_reference ∙ c.in-Ok.ensures.keeps.device.0 ∙ sym c.recover_opened-recovered.ensures.same_bay ∙ sym (ap (λ d. d.bay.ghost_name) c.into_device-bay.ensures) in
    let final = sym (c.bay-in-Ok-1.given.1 same ∙ ap (λ d. d.bay.now) c.into_device-bay.ensures) in
    let ys = c.in-Ok.opened.device.bay.now in
    let zs = c.recover_opened-recovered.new.monitor.device.bay.now in
    let reads = reads-lent g.D.Disk g.met.D.Disk.same_itself config xs c.new-device.result c.in-Ok.opened.device c.new-device.ensures.bay c.in-Ok.ensures.keeps c.in-Ok.ensures.same in
    subst (λ bay. IfErr c.recover_opened-recovered.result (HasFailed faults config xs bay)) final
    (if-err c.recover_opened-recovered.result (HasFailed faults config ys zs) (HasFailed faults config xs zs)
    (λ e failed. failed-after faults config xs ys zs e reads.keeps.later c.recover_opened-recovered.ensures.writes.keeps.later failed) c.recover_opened-recovered.ensures.cause)
