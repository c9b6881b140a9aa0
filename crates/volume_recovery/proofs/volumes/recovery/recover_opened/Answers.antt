use Rattle.std.specs.Prelude.{Err, length}
use Rattle.std.proofs.Common.{◌≡◌, ◌∙◌, ap, subst, sym}
use Rattle.std.proofs.lemmas.Result.{err_from_is_err_and}
use Rattle.disk_model.proofs.Devices.{are-later-then, later-then, tell-then}
use Rattle.trail_files.specs.MonitorRecord.{monitor_format}
use Rattle.trail_files.specs.Text.{Spells}
use Rattle.trail_replay.specs.Rules.{rules_of}
use Rattle.volume_recovery.specs.MonitorDevice.{HasResting, in_bay}
use Rattle.volume_recovery.specs.VolumeAnswers.{RecoversWithVolumes}
use Rattle.volume_recovery.specs.VolumeLoop.{ReadsBay}
use Rattle.volume_recovery.proofs.MonitorDevices.{tells-first}
use Rattle.volume_recovery.proofs.VolumeBay.{failed-after, read-held, read-tell, reads-then, writes-read, writes-then}
use Rattle.volume_recovery.proofs.VolumeOpened.{held-through, keeps-start, lands-start, reads-first, resting-on, rests-start, tells-bay, tells-through, writable-on}
use Rattle.volume_recovery.proofs.VolumePreparing.{cause-err, failed-monitor}
use Rattle.volume_recovery.proofs.VolumeWriting.{Laws, monitor-there, read-refused, refusal-plain, start-refused, write-refused, writes-monitor, written}
use Rattle.volume_recovery.proofs.volumes.recovery.recover_opened.Goals as goal

pub start_monitor-requires-clause-writable : goal.start_monitor-requires-clause-writable
start_monitor-requires-clause-writable g c =
    let bs = c.read_monitor.new.monitor.device.bay.now in
    let lent = c.device.result.now.bay.now in
    let was : lent ≡ bs = ap (λ d. d.bay.now) c.device.ensures.value in
    let zs = c.read_node.new.bay in
    let ys = c.device-2.result.now.bay.now in
    let was_on : ys ≡ zs = ap (λ d. d.bay.now) c.device-2.ensures.value in
    let vs = c.recover_volumes.new.bay in
    writable-on (in_bay g.D.Disk).tells (in_bay g.D.Disk).held c.read_monitor.new.monitor _
    (held-through g.D.Disk (length c.args.config.now.volumes) bs lent zs ys vs was c.read_node.ensures.reads.same was_on c.recover_volumes.ensures.writes.keeps c.recover_volumes.ensures.held)
    (tells-through g.D.Disk.tells bs lent zs ys vs was c.read_node.ensures.reads.keeps.tells was_on c.recover_volumes.ensures.writes.keeps.tells)
    (c.read_monitor.ensures.keeps.writable c.requires.writable)

pub returns-in_err-records-clause-recovered : goal.returns-in_err-records-clause-recovered
returns-in_err-records-clause-recovered g c = λ images tell held rest count opened.
    let config = c.args.config.now in
    let xs = c.args.monitor.now.device.bay.now in
    let laws : Laws = record {
      recovering = c.recovering_law.ensures;
      recovered = c.recovered_law.ensures;
      volume = c.resting_law.ensures.volume;
      dump = c.resting_law.ensures.dump;
      image = c.at_rest.ensures.image;
      audit = λ rules before image records rests leaves. c.every_image.ensures.resting rules before image records rests leaves;
      monitor = λ before image records rests leaves. c.every_image-2.ensures.resting (rules_of c.args.config.now 0) before image records rests leaves;
      one_audit = λ config images trail xs ys p q. c.one_spelling.ensures.spelled (rules_of config trail) (images trail) xs ys p q;
      one_list = λ images xs ys p q. c.one_spelling-2.ensures.spelled (rules_of c.args.config.now 0) (images 0) xs ys p q;
      text = record {
        monitor = λ image list damage spells damaged. c.one_spelling-2.ensures.undamaged (rules_of c.args.config.now 0) image list damage spells damaged;
        audit = λ config trail image audit damage spells damaged. c.one_spelling.ensures.undamaged (rules_of config trail) image audit damage spells damaged;
        one_monitor = λ image x y a b. c.one_spelling-2.ensures.damage (rules_of c.args.config.now 0) image x y a b;
        one_audit = λ config trail image x y a b. c.one_spelling.ensures.damage (rules_of config trail) image x y a b;
      };
      spelled = c.spelled_volume_law.ensures.fine;
      contents = c.spelled_volume_law.ensures.spelled;
    } in
    let p = err_from_is_err_and c.from_residual.result c.from_residual.ensures.1 in
    let bs = c.read_monitor.new.monitor.device.bay.now in
    let read = reads-first g.D.Disk g.met.D.Disk.same_itself config c.args.monitor.now.device c.read_monitor.new.monitor.device c.read_monitor.ensures.keeps.device c.read_monitor.ensures.same in
    subst (λ r. RecoversWithVolumes g.D.Disk.held config images r bs) (sym (p.1 ∙ ap (λ e. Err e) p.2))
    (read-refused g.D.Disk config images xs laws c.requires.valid count rest bs read held c.in_err-records.field-0.0
    (refusal-plain config images c.in_err-records.field-0.0 (c.in_err-records.ensures.told (images 0) opened (tells-bay g.D.Disk.tells xs count tell))))

pub returns-in_err-records-clause-writes : goal.returns-in_err-records-clause-writes
returns-in_err-records-clause-writes g c =
    let config = c.args.config.now in
    let xs = c.args.monitor.now.device.bay.now in
    let bs = c.read_monitor.new.monitor.device.bay.now in
    let read = reads-first g.D.Disk g.met.D.Disk.same_itself config c.args.monitor.now.device c.read_monitor.new.monitor.device c.read_monitor.ensures.keeps.device c.read_monitor.ensures.same in
    writes-read g.D.Disk config xs bs read

pub returns-in_err-records-clause-cause : goal.returns-in_err-records-clause-cause
returns-in_err-records-clause-cause g c =
    let config = c.args.config.now in
    let xs = c.args.monitor.now.device.bay.now in
    let p = err_from_is_err_and c.from_residual.result c.from_residual.ensures.1 in
    let bs = c.read_monitor.new.monitor.device.bay.now in
    let read = reads-first g.D.Disk g.met.D.Disk.same_itself config c.args.monitor.now.device c.read_monitor.new.monitor.device c.read_monitor.ensures.keeps.device c.read_monitor.ensures.same in
    cause-err g.D.Disk.faults config xs bs c.from_residual.result p.0 c.in_err-records.field-0.0 p.1 p.2
    (failed-monitor g.D.Disk config xs bs c.in_err-records.field-0.0 (λ number is. c.in_err-records.ensures.cause number (ap (λ e. Err e) is)))

pub returns-in_err-prepared-clause-recovered : goal.returns-in_err-prepared-clause-recovered
returns-in_err-prepared-clause-recovered g c = λ images tell held rest count opened.
    let config = c.args.config.now in
    let xs = c.args.monitor.now.device.bay.now in
    let laws : Laws = record {
      recovering = c.recovering_law.ensures;
      recovered = c.recovered_law.ensures;
      volume = c.resting_law.ensures.volume;
      dump = c.resting_law.ensures.dump;
      image = c.at_rest.ensures.image;
      audit = λ rules before image records rests leaves. c.every_image.ensures.resting rules before image records rests leaves;
      monitor = λ before image records rests leaves. c.every_image-2.ensures.resting (rules_of c.args.config.now 0) before image records rests leaves;
      one_audit = λ config images trail xs ys p q. c.one_spelling.ensures.spelled (rules_of config trail) (images trail) xs ys p q;
      one_list = λ images xs ys p q. c.one_spelling-2.ensures.spelled (rules_of c.args.config.now 0) (images 0) xs ys p q;
      text = record {
        monitor = λ image list damage spells damaged. c.one_spelling-2.ensures.undamaged (rules_of c.args.config.now 0) image list damage spells damaged;
        audit = λ config trail image audit damage spells damaged. c.one_spelling.ensures.undamaged (rules_of config trail) image audit damage spells damaged;
        one_monitor = λ image x y a b. c.one_spelling-2.ensures.damage (rules_of c.args.config.now 0) image x y a b;
        one_audit = λ config trail image x y a b. c.one_spelling.ensures.damage (rules_of config trail) image x y a b;
      };
      spelled = c.spelled_volume_law.ensures.fine;
      contents = c.spelled_volume_law.ensures.spelled;
    } in
    let p = err_from_is_err_and c.from_residual-in_err-prepared.result c.from_residual-in_err-prepared.ensures.1 in
    let bs = c.read_monitor.new.monitor.device.bay.now in
    let read = reads-first g.D.Disk g.met.D.Disk.same_itself config c.args.monitor.now.device c.read_monitor.new.monitor.device c.read_monitor.ensures.keeps.device c.read_monitor.ensures.same in
    let lent = c.device.result.now.bay.now in
    let was : lent ≡ bs = ap (λ d. d.bay.now) c.device.ensures.value in
    let first = subst (ReadsBay g.D.Disk config xs) (sym was) read in
    let ys = c.read_node.new.bay in
    let reads = reads-then g.D.Disk config g.met.D.Disk.same_on xs lent ys first c.read_node.ensures.reads in
    let first_tell = read-tell g.D.Disk config xs lent first tell in
    let first_held = read-held g.D.Disk config xs lent images first held in
    let spells = subst (λ l. Spells monitor_format (images 0) l) (sym (c.in_ok-records.ensures.told (images 0) opened (tells-bay g.D.Disk.tells xs count tell))) opened.spells in
    subst (λ r. RecoversWithVolumes g.D.Disk.held config images r ys) (sym (p.1 ∙ ap (λ e. Err e) p.2))
    (read-refused g.D.Disk config images xs laws c.requires.valid count rest ys reads held c.in_err-prepared.field-0.0 (c.in_err-prepared.ensures.told images first_tell first_held rest spells))

pub returns-in_err-prepared-clause-writes : goal.returns-in_err-prepared-clause-writes
returns-in_err-prepared-clause-writes g c =
    let config = c.args.config.now in
    let xs = c.args.monitor.now.device.bay.now in
    let bs = c.read_monitor.new.monitor.device.bay.now in
    let read = reads-first g.D.Disk g.met.D.Disk.same_itself config c.args.monitor.now.device c.read_monitor.new.monitor.device c.read_monitor.ensures.keeps.device c.read_monitor.ensures.same in
    let lent = c.device.result.now.bay.now in
    let was : lent ≡ bs = ap (λ d. d.bay.now) c.device.ensures.value in
    let first = subst (ReadsBay g.D.Disk config xs) (sym was) read in
    let ys = c.read_node.new.bay in
    let reads = reads-then g.D.Disk config g.met.D.Disk.same_on xs lent ys first c.read_node.ensures.reads in
    writes-read g.D.Disk config xs ys reads

pub returns-in_err-prepared-clause-cause : goal.returns-in_err-prepared-clause-cause
returns-in_err-prepared-clause-cause g c =
    let config = c.args.config.now in
    let xs = c.args.monitor.now.device.bay.now in
    let p = err_from_is_err_and c.from_residual-in_err-prepared.result c.from_residual-in_err-prepared.ensures.1 in
    let bs = c.read_monitor.new.monitor.device.bay.now in
    let read = reads-first g.D.Disk g.met.D.Disk.same_itself config c.args.monitor.now.device c.read_monitor.new.monitor.device c.read_monitor.ensures.keeps.device c.read_monitor.ensures.same in
    let lent = c.device.result.now.bay.now in
    let was : lent ≡ bs = ap (λ d. d.bay.now) c.device.ensures.value in
    let first = subst (ReadsBay g.D.Disk config xs) (sym was) read in
    let ys = c.read_node.new.bay in
    let reads = reads-then g.D.Disk config g.met.D.Disk.same_on xs lent ys first c.read_node.ensures.reads in
    cause-err g.D.Disk.faults config xs ys c.from_residual-in_err-prepared.result p.0 c.in_err-prepared.field-0.0 p.1 p.2
    (failed-after g.D.Disk.faults config xs lent ys c.in_err-prepared.field-0.0 first.keeps.later c.read_node.ensures.reads.keeps.later c.in_err-prepared.ensures.cause)

pub returns-in_err-recover_volumes-clause-recovered : goal.returns-in_err-recover_volumes-clause-recovered
returns-in_err-recover_volumes-clause-recovered g c = λ images tell held rest count opened.
    let config = c.args.config.now in
    let xs = c.args.monitor.now.device.bay.now in
    let laws : Laws = record {
      recovering = c.recovering_law.ensures;
      recovered = c.recovered_law.ensures;
      volume = c.resting_law.ensures.volume;
      dump = c.resting_law.ensures.dump;
      image = c.at_rest.ensures.image;
      audit = λ rules before image records rests leaves. c.every_image.ensures.resting rules before image records rests leaves;
      monitor = λ before image records rests leaves. c.every_image-2.ensures.resting (rules_of c.args.config.now 0) before image records rests leaves;
      one_audit = λ config images trail xs ys p q. c.one_spelling.ensures.spelled (rules_of config trail) (images trail) xs ys p q;
      one_list = λ images xs ys p q. c.one_spelling-2.ensures.spelled (rules_of c.args.config.now 0) (images 0) xs ys p q;
      text = record {
        monitor = λ image list damage spells damaged. c.one_spelling-2.ensures.undamaged (rules_of c.args.config.now 0) image list damage spells damaged;
        audit = λ config trail image audit damage spells damaged. c.one_spelling.ensures.undamaged (rules_of config trail) image audit damage spells damaged;
        one_monitor = λ image x y a b. c.one_spelling-2.ensures.damage (rules_of c.args.config.now 0) image x y a b;
        one_audit = λ config trail image x y a b. c.one_spelling.ensures.damage (rules_of config trail) image x y a b;
      };
      spelled = c.spelled_volume_law.ensures.fine;
      contents = c.spelled_volume_law.ensures.spelled;
    } in
    let p = err_from_is_err_and c.from_residual-in_err-recover_volumes.result c.from_residual-in_err-recover_volumes.ensures.1 in
    let bs = c.read_monitor.new.monitor.device.bay.now in
    let read = reads-first g.D.Disk g.met.D.Disk.same_itself config c.args.monitor.now.device c.read_monitor.new.monitor.device c.read_monitor.ensures.keeps.device c.read_monitor.ensures.same in
    let lent = c.device.result.now.bay.now in
    let was : lent ≡ bs = ap (λ d. d.bay.now) c.device.ensures.value in
    let first = subst (ReadsBay g.D.Disk config xs) (sym was) read in
    let zs = c.read_node.new.bay in
    let ys = c.device-2.result.now.bay.now in
    let was_on : ys ≡ zs = ap (λ d. d.bay.now) c.device-2.ensures.value in
    let reads = subst (ReadsBay g.D.Disk config xs) (sym was_on) (reads-then g.D.Disk config g.met.D.Disk.same_on xs lent zs first c.read_node.ensures.reads) in
    let vs = c.recover_volumes.new.bay in
    let first_tell = read-tell g.D.Disk config xs lent first tell in
    let first_held = read-held g.D.Disk config xs lent images first held in
    let spells = subst (λ l. Spells monitor_format (images 0) l) (sym (c.in_ok-records.ensures.told (images 0) opened (tells-bay g.D.Disk.tells xs count tell))) opened.spells in
    let prepared = c.in_ok-prepared.prepared in
    let is = c.in_ok-prepared.ensures.told images first_tell first_held rest spells in
    let now_tell = read-tell g.D.Disk config xs ys reads tell in
    let now_held = read-held g.D.Disk config xs ys images reads held in
    let wrote = are-later-then g.D.Disk g.met.D.Disk.same_on xs ys vs reads.keeps c.recover_volumes.ensures.writes.keeps in
    let are = c.recover_volumes.ensures.held images now_held in
    let every = c.recover_volumes.ensures.every images prepared.records.items is.audit now_tell now_held rest is.found in
    subst (λ r. RecoversWithVolumes g.D.Disk.held config images r vs) (sym (p.1 ∙ ap (λ e. Err e) p.2))
    (write-refused g.D.Disk config images xs laws c.requires.valid count rest prepared is vs wrote are every c.in_err-recover_volumes.field-0.0
    (c.in_err-recover_volumes.ensures.told images prepared.records.items is.audit now_tell now_held rest is.found is.inspected))

pub returns-in_err-recover_volumes-clause-writes : goal.returns-in_err-recover_volumes-clause-writes
returns-in_err-recover_volumes-clause-writes g c =
    let config = c.args.config.now in
    let xs = c.args.monitor.now.device.bay.now in
    let bs = c.read_monitor.new.monitor.device.bay.now in
    let read = reads-first g.D.Disk g.met.D.Disk.same_itself config c.args.monitor.now.device c.read_monitor.new.monitor.device c.read_monitor.ensures.keeps.device c.read_monitor.ensures.same in
    let lent = c.device.result.now.bay.now in
    let was : lent ≡ bs = ap (λ d. d.bay.now) c.device.ensures.value in
    let first = subst (ReadsBay g.D.Disk config xs) (sym was) read in
    let zs = c.read_node.new.bay in
    let ys = c.device-2.result.now.bay.now in
    let was_on : ys ≡ zs = ap (λ d. d.bay.now) c.device-2.ensures.value in
    let reads = subst (ReadsBay g.D.Disk config xs) (sym was_on) (reads-then g.D.Disk config g.met.D.Disk.same_on xs lent zs first c.read_node.ensures.reads) in
    let vs = c.recover_volumes.new.bay in
    writes-then g.D.Disk config g.met.D.Disk.same_on xs ys vs (writes-read g.D.Disk config xs ys reads) c.recover_volumes.ensures.writes

pub returns-in_err-recover_volumes-clause-cause : goal.returns-in_err-recover_volumes-clause-cause
returns-in_err-recover_volumes-clause-cause g c =
    let config = c.args.config.now in
    let xs = c.args.monitor.now.device.bay.now in
    let p = err_from_is_err_and c.from_residual-in_err-recover_volumes.result c.from_residual-in_err-recover_volumes.ensures.1 in
    let bs = c.read_monitor.new.monitor.device.bay.now in
    let read = reads-first g.D.Disk g.met.D.Disk.same_itself config c.args.monitor.now.device c.read_monitor.new.monitor.device c.read_monitor.ensures.keeps.device c.read_monitor.ensures.same in
    let lent = c.device.result.now.bay.now in
    let was : lent ≡ bs = ap (λ d. d.bay.now) c.device.ensures.value in
    let first = subst (ReadsBay g.D.Disk config xs) (sym was) read in
    let zs = c.read_node.new.bay in
    let ys = c.device-2.result.now.bay.now in
    let was_on : ys ≡ zs = ap (λ d. d.bay.now) c.device-2.ensures.value in
    let reads = subst (ReadsBay g.D.Disk config xs) (sym was_on) (reads-then g.D.Disk config g.met.D.Disk.same_on xs lent zs first c.read_node.ensures.reads) in
    let vs = c.recover_volumes.new.bay in
    cause-err g.D.Disk.faults config xs vs c.from_residual-in_err-recover_volumes.result p.0 c.in_err-recover_volumes.field-0.0 p.1 p.2
    (failed-after g.D.Disk.faults config xs ys vs c.in_err-recover_volumes.field-0.0 reads.keeps.later c.recover_volumes.ensures.writes.keeps.later c.in_err-recover_volumes.ensures.cause)

pub returns-in_err-start_monitor-clause-recovered : goal.returns-in_err-start_monitor-clause-recovered
returns-in_err-start_monitor-clause-recovered g c = λ images tell held rest count opened.
    let config = c.args.config.now in
    let xs = c.args.monitor.now.device.bay.now in
    let laws : Laws = record {
      recovering = c.recovering_law.ensures;
      recovered = c.recovered_law.ensures;
      volume = c.resting_law.ensures.volume;
      dump = c.resting_law.ensures.dump;
      image = c.at_rest.ensures.image;
      audit = λ rules before image records rests leaves. c.every_image.ensures.resting rules before image records rests leaves;
      monitor = λ before image records rests leaves. c.every_image-2.ensures.resting (rules_of c.args.config.now 0) before image records rests leaves;
      one_audit = λ config images trail xs ys p q. c.one_spelling.ensures.spelled (rules_of config trail) (images trail) xs ys p q;
      one_list = λ images xs ys p q. c.one_spelling-2.ensures.spelled (rules_of c.args.config.now 0) (images 0) xs ys p q;
      text = record {
        monitor = λ image list damage spells damaged. c.one_spelling-2.ensures.undamaged (rules_of c.args.config.now 0) image list damage spells damaged;
        audit = λ config trail image audit damage spells damaged. c.one_spelling.ensures.undamaged (rules_of config trail) image audit damage spells damaged;
        one_monitor = λ image x y a b. c.one_spelling-2.ensures.damage (rules_of c.args.config.now 0) image x y a b;
        one_audit = λ config trail image x y a b. c.one_spelling.ensures.damage (rules_of config trail) image x y a b;
      };
      spelled = c.spelled_volume_law.ensures.fine;
      contents = c.spelled_volume_law.ensures.spelled;
    } in
    let p = err_from_is_err_and c.from_residual-in_err-start_monitor.result c.from_residual-in_err-start_monitor.ensures.1 in
    let bs = c.read_monitor.new.monitor.device.bay.now in
    let read = reads-first g.D.Disk g.met.D.Disk.same_itself config c.args.monitor.now.device c.read_monitor.new.monitor.device c.read_monitor.ensures.keeps.device c.read_monitor.ensures.same in
    let lent = c.device.result.now.bay.now in
    let was : lent ≡ bs = ap (λ d. d.bay.now) c.device.ensures.value in
    let first = subst (ReadsBay g.D.Disk config xs) (sym was) read in
    let zs = c.read_node.new.bay in
    let ys = c.device-2.result.now.bay.now in
    let was_on : ys ≡ zs = ap (λ d. d.bay.now) c.device-2.ensures.value in
    let reads = subst (ReadsBay g.D.Disk config xs) (sym was_on) (reads-then g.D.Disk config g.met.D.Disk.same_on xs lent zs first c.read_node.ensures.reads) in
    let vs = c.recover_volumes.new.bay in
    let first_tell = read-tell g.D.Disk config xs lent first tell in
    let first_held = read-held g.D.Disk config xs lent images first held in
    let spells = subst (λ l. Spells monitor_format (images 0) l) (sym (c.in_ok-records.ensures.told (images 0) opened (tells-bay g.D.Disk.tells xs count tell))) opened.spells in
    let prepared = c.in_ok-prepared.prepared in
    let is = c.in_ok-prepared.ensures.told images first_tell first_held rest spells in
    let now_tell = read-tell g.D.Disk config xs ys reads tell in
    let now_held = read-held g.D.Disk config xs ys images reads held in
    let wrote = are-later-then g.D.Disk g.met.D.Disk.same_on xs ys vs reads.keeps c.recover_volumes.ensures.writes.keeps in
    let are = c.recover_volumes.ensures.held images now_held in
    let every = c.recover_volumes.ensures.every images prepared.records.items is.audit now_tell now_held rest is.found in
    let ends = c.start_monitor.new.monitor.device.bay.now in
    let later = are-later-then g.D.Disk g.met.D.Disk.same_on xs vs ends wrote c.start_monitor.ensures.keeps in
    let there = monitor-there g.D.Disk xs ends count later in
    let vs_there = monitor-there g.D.Disk xs vs count wrote in
    let vs_told = tells-first g.D.Disk.tells vs vs_there.0 vs_there.1 (tell-then g.D.Disk.tells ys vs c.recover_volumes.ensures.writes.keeps.tells now_tell) in
    let same = held-through g.D.Disk (length config.volumes) bs lent zs ys vs was c.read_node.ensures.reads.same was_on c.recover_volumes.ensures.writes.keeps c.recover_volumes.ensures.held in
    let telling = tells-through g.D.Disk.tells bs lent zs ys vs was c.read_node.ensures.reads.keeps.tells was_on c.recover_volumes.ensures.writes.keeps.tells in
    let read_has = c.read_monitor.ensures.holds prepared.records.items (subst (HasResting g.D.Disk c.args.monitor.now) (laws.one_list images opened.list prepared.records.items opened.spells is.trails.monitor) opened.has) in
    let has = resting-on g.D.Disk c.read_monitor.new.monitor _ same telling prepared.records.items read_has in
    subst (λ r. RecoversWithVolumes g.D.Disk.held config images r ends) (sym (p.1 ∙ ap (λ e. Err e) p.2))
    (start-refused g.D.Disk config images xs laws c.requires.valid count rest prepared is vs ends later c.start_monitor.ensures.others are every
    (keeps-start g.D.Disk images (laws.one_list images) ends _ prepared.records.items prepared.epoch is.trails.monitor has there.0 there.1
    (λ list image other may_end order left. c.start_monitor.ensures.kept list image vs_told other may_end order left))
    c.in_err-start_monitor.field-0.0 c.in_err-start_monitor.ensures.plain)

pub returns-in_err-start_monitor-clause-writes : goal.returns-in_err-start_monitor-clause-writes
returns-in_err-start_monitor-clause-writes g c =
    let config = c.args.config.now in
    let xs = c.args.monitor.now.device.bay.now in
    let bs = c.read_monitor.new.monitor.device.bay.now in
    let read = reads-first g.D.Disk g.met.D.Disk.same_itself config c.args.monitor.now.device c.read_monitor.new.monitor.device c.read_monitor.ensures.keeps.device c.read_monitor.ensures.same in
    let lent = c.device.result.now.bay.now in
    let was : lent ≡ bs = ap (λ d. d.bay.now) c.device.ensures.value in
    let first = subst (ReadsBay g.D.Disk config xs) (sym was) read in
    let zs = c.read_node.new.bay in
    let ys = c.device-2.result.now.bay.now in
    let was_on : ys ≡ zs = ap (λ d. d.bay.now) c.device-2.ensures.value in
    let reads = subst (ReadsBay g.D.Disk config xs) (sym was_on) (reads-then g.D.Disk config g.met.D.Disk.same_on xs lent zs first c.read_node.ensures.reads) in
    let vs = c.recover_volumes.new.bay in
    let ends = c.start_monitor.new.monitor.device.bay.now in
    writes-then g.D.Disk config g.met.D.Disk.same_on xs vs ends
    (writes-then g.D.Disk config g.met.D.Disk.same_on xs ys vs (writes-read g.D.Disk config xs ys reads) c.recover_volumes.ensures.writes)
    (writes-monitor g.D.Disk config vs ends c.start_monitor.ensures.keeps c.start_monitor.ensures.others)

pub returns-in_err-start_monitor-clause-cause : goal.returns-in_err-start_monitor-clause-cause
returns-in_err-start_monitor-clause-cause g c =
    let config = c.args.config.now in
    let xs = c.args.monitor.now.device.bay.now in
    let p = err_from_is_err_and c.from_residual-in_err-start_monitor.result c.from_residual-in_err-start_monitor.ensures.1 in
    let bs = c.read_monitor.new.monitor.device.bay.now in
    let read = reads-first g.D.Disk g.met.D.Disk.same_itself config c.args.monitor.now.device c.read_monitor.new.monitor.device c.read_monitor.ensures.keeps.device c.read_monitor.ensures.same in
    let lent = c.device.result.now.bay.now in
    let was : lent ≡ bs = ap (λ d. d.bay.now) c.device.ensures.value in
    let first = subst (ReadsBay g.D.Disk config xs) (sym was) read in
    let zs = c.read_node.new.bay in
    let ys = c.device-2.result.now.bay.now in
    let was_on : ys ≡ zs = ap (λ d. d.bay.now) c.device-2.ensures.value in
    let reads = subst (ReadsBay g.D.Disk config xs) (sym was_on) (reads-then g.D.Disk config g.met.D.Disk.same_on xs lent zs first c.read_node.ensures.reads) in
    let vs = c.recover_volumes.new.bay in
    let ends = c.start_monitor.new.monitor.device.bay.now in
    cause-err g.D.Disk.faults config xs ends c.from_residual-in_err-start_monitor.result p.0 c.in_err-start_monitor.field-0.0 p.1 p.2
    (failed-after g.D.Disk.faults config xs vs ends c.in_err-start_monitor.field-0.0
    (later-then g.D.Disk.faults xs ys vs reads.keeps.later c.recover_volumes.ensures.writes.keeps.later) c.start_monitor.ensures.keeps.later
    (failed-monitor g.D.Disk config vs ends c.in_err-start_monitor.field-0.0 (λ number failed. c.in_err-start_monitor.ensures.cause number (ap (λ e. Err e) failed))))

pub returns-clause-recovered : goal.returns-clause-recovered
returns-clause-recovered g c = λ images tell held rest count opened.
    let config = c.args.config.now in
    let xs = c.args.monitor.now.device.bay.now in
    let laws : Laws = record {
      recovering = c.recovering_law.ensures;
      recovered = c.recovered_law.ensures;
      volume = c.resting_law.ensures.volume;
      dump = c.resting_law.ensures.dump;
      image = c.at_rest.ensures.image;
      audit = λ rules before image records rests leaves. c.every_image.ensures.resting rules before image records rests leaves;
      monitor = λ before image records rests leaves. c.every_image-2.ensures.resting (rules_of c.args.config.now 0) before image records rests leaves;
      one_audit = λ config images trail xs ys p q. c.one_spelling.ensures.spelled (rules_of config trail) (images trail) xs ys p q;
      one_list = λ images xs ys p q. c.one_spelling-2.ensures.spelled (rules_of c.args.config.now 0) (images 0) xs ys p q;
      text = record {
        monitor = λ image list damage spells damaged. c.one_spelling-2.ensures.undamaged (rules_of c.args.config.now 0) image list damage spells damaged;
        audit = λ config trail image audit damage spells damaged. c.one_spelling.ensures.undamaged (rules_of config trail) image audit damage spells damaged;
        one_monitor = λ image x y a b. c.one_spelling-2.ensures.damage (rules_of c.args.config.now 0) image x y a b;
        one_audit = λ config trail image x y a b. c.one_spelling.ensures.damage (rules_of config trail) image x y a b;
      };
      spelled = c.spelled_volume_law.ensures.fine;
      contents = c.spelled_volume_law.ensures.spelled;
    } in
    let bs = c.read_monitor.new.monitor.device.bay.now in
    let read = reads-first g.D.Disk g.met.D.Disk.same_itself config c.args.monitor.now.device c.read_monitor.new.monitor.device c.read_monitor.ensures.keeps.device c.read_monitor.ensures.same in
    let lent = c.device.result.now.bay.now in
    let was : lent ≡ bs = ap (λ d. d.bay.now) c.device.ensures.value in
    let first = subst (ReadsBay g.D.Disk config xs) (sym was) read in
    let zs = c.read_node.new.bay in
    let ys = c.device-2.result.now.bay.now in
    let was_on : ys ≡ zs = ap (λ d. d.bay.now) c.device-2.ensures.value in
    let reads = subst (ReadsBay g.D.Disk config xs) (sym was_on) (reads-then g.D.Disk config g.met.D.Disk.same_on xs lent zs first c.read_node.ensures.reads) in
    let vs = c.recover_volumes.new.bay in
    let first_tell = read-tell g.D.Disk config xs lent first tell in
    let first_held = read-held g.D.Disk config xs lent images first held in
    let spells = subst (λ l. Spells monitor_format (images 0) l) (sym (c.in_ok-records.ensures.told (images 0) opened (tells-bay g.D.Disk.tells xs count tell))) opened.spells in
    let prepared = c.in_ok-prepared.prepared in
    let is = c.in_ok-prepared.ensures.told images first_tell first_held rest spells in
    let now_tell = read-tell g.D.Disk config xs ys reads tell in
    let now_held = read-held g.D.Disk config xs ys images reads held in
    let wrote = are-later-then g.D.Disk g.met.D.Disk.same_on xs ys vs reads.keeps c.recover_volumes.ensures.writes.keeps in
    let are = c.recover_volumes.ensures.held images now_held in
    let every = c.recover_volumes.ensures.every images prepared.records.items is.audit now_tell now_held rest is.found in
    let ends = c.start_monitor.new.monitor.device.bay.now in
    let later = are-later-then g.D.Disk g.met.D.Disk.same_on xs vs ends wrote c.start_monitor.ensures.keeps in
    let there = monitor-there g.D.Disk xs ends count later in
    let vs_there = monitor-there g.D.Disk xs vs count wrote in
    let vs_told = tells-first g.D.Disk.tells vs vs_there.0 vs_there.1 (tell-then g.D.Disk.tells ys vs c.recover_volumes.ensures.writes.keeps.tells now_tell) in
    let same = held-through g.D.Disk (length config.volumes) bs lent zs ys vs was c.read_node.ensures.reads.same was_on c.recover_volumes.ensures.writes.keeps c.recover_volumes.ensures.held in
    let telling = tells-through g.D.Disk.tells bs lent zs ys vs was c.read_node.ensures.reads.keeps.tells was_on c.recover_volumes.ensures.writes.keeps.tells in
    let read_has = c.read_monitor.ensures.holds prepared.records.items (subst (HasResting g.D.Disk c.args.monitor.now) (laws.one_list images opened.list prepared.records.items opened.spells is.trails.monitor) opened.has) in
    let has = resting-on g.D.Disk c.read_monitor.new.monitor _ same telling prepared.records.items read_has in
    written g.D.Disk config images xs laws c.requires.valid count rest prepared is vs ends later c.start_monitor.ensures.others are every
    (c.in_ok-recover_volumes.ensures.whole images prepared.records.items is.audit now_tell now_held rest is.found)
    (c.in_ok-recover_volumes.ensures.settled images now_tell now_held rest) c.recover_volumes.new.lost.items
    (c.in_ok-recover_volumes.ensures.told images prepared.records.items is.audit now_tell now_held rest is.found is.inspected) g.met.D.Disk.sound
    (lands-start g.D.Disk images (laws.one_list images) ends _ prepared.records.items prepared.epoch is.trails.monitor has there.0 there.1
    (λ list other order. c.in_ok-start_monitor.ensures.rests list vs_told other order) laws.monitor)
    (rests-start g.D.Disk images (laws.one_list images) ends _ prepared.records.items prepared.epoch is.trails.monitor has there.0 there.1
    (λ list other order. c.in_ok-start_monitor.ensures.rests list vs_told other order) is.epoch is.few)
    c.new.result c.new-2.result c.new.ensures c.new-2.ensures

pub returns-clause-begun : goal.returns-clause-begun
returns-clause-begun g c = c.in_ok-prepared.ensures.begun

pub returns-clause-writes : goal.returns-clause-writes
returns-clause-writes g c =
    let config = c.args.config.now in
    let xs = c.args.monitor.now.device.bay.now in
    let bs = c.read_monitor.new.monitor.device.bay.now in
    let read = reads-first g.D.Disk g.met.D.Disk.same_itself config c.args.monitor.now.device c.read_monitor.new.monitor.device c.read_monitor.ensures.keeps.device c.read_monitor.ensures.same in
    let lent = c.device.result.now.bay.now in
    let was : lent ≡ bs = ap (λ d. d.bay.now) c.device.ensures.value in
    let first = subst (ReadsBay g.D.Disk config xs) (sym was) read in
    let zs = c.read_node.new.bay in
    let ys = c.device-2.result.now.bay.now in
    let was_on : ys ≡ zs = ap (λ d. d.bay.now) c.device-2.ensures.value in
    let reads = subst (ReadsBay g.D.Disk config xs) (sym was_on) (reads-then g.D.Disk config g.met.D.Disk.same_on xs lent zs first c.read_node.ensures.reads) in
    let vs = c.recover_volumes.new.bay in
    let ends = c.start_monitor.new.monitor.device.bay.now in
    writes-then g.D.Disk config g.met.D.Disk.same_on xs vs ends
    (writes-then g.D.Disk config g.met.D.Disk.same_on xs ys vs (writes-read g.D.Disk config xs ys reads) c.recover_volumes.ensures.writes)
    (writes-monitor g.D.Disk config vs ends c.start_monitor.ensures.keeps c.start_monitor.ensures.others)
