use Rattle.std.specs.Prelude.{Err, IfErr, MatchResult, length}
use Rattle.std.proofs.Common.{◌+◌, ◌-◌, ◌∙◌, ap, arith, rules, subst, sym}
use Rattle.std.proofs.lemmas.Result.{err_from_is_err_and}
use Rattle.volume_recovery.specs.VolumeLoop.{HasFailed, IsInspected, TellsVolumes}
use Rattle.volume_recovery.specs.VolumeNode.{volume_device}
use Rattle.volume_recovery.proofs.VolumeBay.{failed-after, read-held, read-tell, reads-same, reads-then}
use Rattle.volume_recovery.proofs.VolumeInspecting.{bad-volumes, full-failed, full-volumes, lost-noted, readable-more, readable-told, rooms-next, told-ready}
use Rattle.volume_restore.proofs.Restoring.{item-of}
use Rattle.volume_recovery.proofs.volumes.recovery.inspect_volumes.Goals as goal

pub loop-volume-preserved : goal.loop-volume-preserved
loop-volume-preserved g c =
    let config = c.args.config.now in
    let n = c.loop-volume.volume in
    let volume = c.loop-volume.volume + 1 in
    let inv = c.loop-volume.invariant in
    let it = c.in_ok-inspected.inspected in
    record {
      lost = λ images tell held.
          let told = c.in_ok-inspected.ensures.told images (read-tell g.D.Disk config c.args.bay.now c.loop-volume.bay inv.reads tell) (read-held g.D.Disk config c.args.bay.now c.loop-volume.bay images inv.reads held) in
          lost-noted config images c.args.changes.now n volume it c.loop-volume.lost.items _ (omega arith) told (inv.lost images tell held) c.in_ok-note_inspected.ensures.ok;
      readable = λ images tell held.
          let told = c.in_ok-inspected.ensures.told images (read-tell g.D.Disk config c.args.bay.now c.loop-volume.bay inv.reads tell) (read-held g.D.Disk config c.args.bay.now c.loop-volume.bay images inv.reads held) in
          readable-more config images n volume (omega arith) (inv.readable images tell held) (readable-told config volume c.args.changes.now (images (volume_device volume)) it told);
      rooms = λ images tell held.
          let told = c.in_ok-inspected.ensures.told images (read-tell g.D.Disk config c.args.bay.now c.loop-volume.bay inv.reads tell) (read-held g.D.Disk config c.args.bay.now c.loop-volume.bay images inv.reads held) in
          rooms-next config images c.args.changes.now n volume it c.loop-volume.lost.items _ (omega arith) (inv.rooms images tell held) told c.in_ok-note_inspected.ensures.ok;
      reads = reads-then g.D.Disk config g.met.D.Disk.same_on c.args.bay.now c.loop-volume.bay c.inspect_at.new.bay inv.reads c.inspect_at.ensures.reads;
      within = search rules;
      count = inv.count;
      few = inv.few;
    }

pub returns-in_err-inspected-clause-told : goal.returns-in_err-inspected-clause-told
returns-in_err-inspected-clause-told g c = λ images tell held.
    let config = c.args.config.now in
    let n = c.loop-volume.volume in
    let volume = c.loop-volume.volume + 1 in
    let inv = c.loop-volume.invariant in
    let p = err_from_is_err_and c.from_residual.result c.from_residual.ensures.1 in
    let line = item-of config.volumes volume (record { above = omega arith; below = omega (arith, inv.count, c.loop-volume-test.true) }) in
    subst (λ r. MatchResult r (λ lost. IsInspected config images c.args.changes.now (length config.volumes - 1) lost.items) (TellsVolumes config images c.args.changes.now)) (sym (p.1 ∙ ap (λ e. Err e) p.2))
    (bad-volumes config images c.args.changes.now n volume line.0 c.in_err-inspected.field-0.0 (omega arith) line.1 (inv.readable images tell held) (inv.rooms images tell held)
    (c.in_err-inspected.ensures.told images (read-tell g.D.Disk config c.args.bay.now c.loop-volume.bay inv.reads tell) (read-held g.D.Disk config c.args.bay.now c.loop-volume.bay images inv.reads held)))

pub returns-in_err-inspected-clause-reads : goal.returns-in_err-inspected-clause-reads
returns-in_err-inspected-clause-reads g c =
    reads-then g.D.Disk c.args.config.now g.met.D.Disk.same_on c.args.bay.now c.loop-volume.bay c.inspect_at.new.bay c.loop-volume.invariant.reads c.inspect_at.ensures.reads

pub returns-in_err-inspected-clause-cause : goal.returns-in_err-inspected-clause-cause
returns-in_err-inspected-clause-cause g c =
    let config = c.args.config.now in
    let inv = c.loop-volume.invariant in
    let p = err_from_is_err_and c.from_residual.result c.from_residual.ensures.1 in
    subst (λ r. IfErr r (HasFailed g.D.Disk.faults config c.args.bay.now c.inspect_at.new.bay)) (sym (p.1 ∙ ap (λ e. Err e) p.2))
    (failed-after g.D.Disk.faults config c.args.bay.now c.loop-volume.bay c.inspect_at.new.bay c.in_err-inspected.field-0.0 inv.reads.keeps.later c.inspect_at.ensures.reads.keeps.later c.in_err-inspected.ensures.cause)

pub returns-in_err-note_inspected-clause-told : goal.returns-in_err-note_inspected-clause-told
returns-in_err-note_inspected-clause-told g c = λ images tell held.
    let config = c.args.config.now in
    let n = c.loop-volume.volume in
    let volume = c.loop-volume.volume + 1 in
    let inv = c.loop-volume.invariant in
    let told = c.in_ok-inspected.ensures.told images (read-tell g.D.Disk config c.args.bay.now c.loop-volume.bay inv.reads tell) (read-held g.D.Disk config c.args.bay.now c.loop-volume.bay images inv.reads held) in
    let p = err_from_is_err_and c.from_residual-in_err-note_inspected.result c.from_residual-in_err-note_inspected.ensures.1 in
    let line = item-of config.volumes volume (record { above = omega arith; below = omega (arith, inv.count, c.loop-volume-test.true) }) in
    subst (λ r. MatchResult r (λ lost. IsInspected config images c.args.changes.now (length config.volumes - 1) lost.items) (TellsVolumes config images c.args.changes.now)) (sym (p.1 ∙ ap (λ e. Err e) p.2))
    (full-volumes config images c.args.changes.now n volume line.0 c.in_ok-inspected.inspected c.in_err-note_inspected.field-0.0 (omega arith) line.1 (inv.readable images tell held) (inv.rooms images tell held) told
    c.in_err-note_inspected.ensures.err)

pub returns-in_err-note_inspected-clause-reads : goal.returns-in_err-note_inspected-clause-reads
returns-in_err-note_inspected-clause-reads g c =
    reads-then g.D.Disk c.args.config.now g.met.D.Disk.same_on c.args.bay.now c.loop-volume.bay c.inspect_at.new.bay c.loop-volume.invariant.reads c.inspect_at.ensures.reads

pub returns-in_err-note_inspected-clause-cause : goal.returns-in_err-note_inspected-clause-cause
returns-in_err-note_inspected-clause-cause g c =
    let config = c.args.config.now in
    let p = err_from_is_err_and c.from_residual-in_err-note_inspected.result c.from_residual-in_err-note_inspected.ensures.1 in
    subst (λ r. IfErr r (HasFailed g.D.Disk.faults config c.args.bay.now c.inspect_at.new.bay)) (sym (p.1 ∙ ap (λ e. Err e) p.2))
    (full-failed g.D.Disk.faults config c.args.bay.now c.inspect_at.new.bay (c.loop-volume.volume + 1) c.in_ok-inspected.inspected c.in_err-note_inspected.field-0.0 c.in_err-note_inspected.ensures.err)

pub returns-clause-told : goal.returns-clause-told
returns-clause-told g c = λ images tell held.
    let inv = c.loop-volume.invariant in
    told-ready c.args.config.now images c.args.changes.now c.loop-volume.volume (length c.args.config.now.volumes - 1) c.loop-volume.lost.items (omega (arith, inv.within, inv.count, c.loop-volume-test.false))
    (inv.lost images tell held) (inv.readable images tell held) (inv.rooms images tell held)
