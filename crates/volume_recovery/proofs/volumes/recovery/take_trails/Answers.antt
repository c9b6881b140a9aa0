use Rattle.std.proofs.Common.{◌≡◌, ◌+◌, ◌∙◌, List, [], ⊎_elim, arith, inl, refl, subst, sym, rules}
use Rattle.std.proofs.lemmas.Bool.Decides.{leb_tells}
use Rattle.trail_files.specs.declared.audit_record.AuditRecord.{AuditRecord}
use Rattle.trail_replay.specs.Texts.{SpellsAudit, IsNodeDamage}
use Rattle.volume_restore.specs.Found.{AreFoundFor}
use Rattle.volume_recovery.specs.Recovery.{TellsDamage}
use Rattle.volume_recovery.specs.VolumeLoop.{HasFailed, TellsTrail}
use Rattle.volume_recovery.proofs.Refusals.{first-trail, node-audit, refusal-trail}
use Rattle.volume_recovery.proofs.VolumeBay.{failed-after, read-held, read-tell, reads-then, trail-failed}
use Rattle.volume_recovery.proofs.VolumeRefusing.{tells-trail}
use Rattle.volume_recovery.proofs.VolumeStanding.{volume-audit}
use Rattle.volume_recovery.proofs.volumes.recovery.take_trails.Goals as goal

pub loop-trail-preserved : goal.loop-trail-preserved
loop-trail-preserved g c =
    let config = c.args.config.now in
    let trail = c.loop-trail.trail in
    let inv = c.loop-trail.invariant in
    record {
      taken = λ images list audit tell held trails commits volume low line number from.
          let now_tell = read-tell g.D.Disk config c.args.bay.now c.loop-trail.bay inv.reads tell in
          let now_held = read-held g.D.Disk config c.args.bay.now c.loop-trail.bay images inv.reads held in
          let before = inv.taken images list audit tell held trails commits volume low line number from in
          let step = c.in-Ok.ensures.taken images (audit (trail + 1)) list now_tell now_held (trails.each (trail + 1) (omega arith) (omega (arith, inv.count, c.loop-trail-test.true))) commits in (
            λ le. ⊎_elim
                (λ less. step.others volume low line (audit line.trail) number (λ same. absurd (omega (arith, same, less.1))) (before.0 less.1))
                (λ more. let same : line.trail ≡ trail + 1 = omega (arith, le, more.1) in
                subst (λ t. AreFoundFor config volume low (audit t) list c.take_trail.new.changes) (sym same) (step.own volume low line number same (before.1 more.1)))
                (leb_tells line.trail trail),
            λ lt. step.others volume low line [] number (λ same. absurd (omega (arith, same, lt))) (before.1 (omega (arith, lt))),
          );
      told = λ images tell held n some le.
          ⊎_elim
          (λ old. inv.told images tell held n some old.1)
          (λ new. subst (λ m. SpellsAudit config m (images m)) (omega (arith, le, new.1))
          (c.in-Ok.ensures.read images (read-tell g.D.Disk config c.args.bay.now c.loop-trail.bay inv.reads tell) (read-held g.D.Disk config c.args.bay.now c.loop-trail.bay images inv.reads held)))
          (leb_tells n trail);
      first = λ images device damage tell held first some.
          ⊎_elim
          (λ here. absurd (c.in-Ok.ensures.exact images damage
          (read-tell g.D.Disk config c.args.bay.now c.loop-trail.bay inv.reads tell) (read-held g.D.Disk config c.args.bay.now c.loop-trail.bay images inv.reads held)
          (node-audit config images (trail + 1) damage (omega arith)
          (subst (λ m. IsNodeDamage config images m damage) (omega (arith, here.1, inv.first images device damage tell held first some)) first.here))))
          (λ further. further.1)
          (leb_tells device (trail + 1));
      fits = c.take_trail.ensures.fits;
      reads = reads-then g.D.Disk config g.met.D.Disk.same_on c.args.bay.now c.loop-trail.bay c.take_trail.new.bay inv.reads c.take_trail.ensures.reads;
      within = search rules;
      count = inv.count;
      few = inv.few;
    }

pub returns-in-Err-clause-refused : goal.returns-in-Err-clause-refused
returns-in-Err-clause-refused g c = λ images list tell held monitor.
    let config = c.args.config.now in
    let inv = c.loop-trail.invariant in
    let n = c.loop-trail.trail + 1 in
    subst (TellsTrail config images) (sym c.at.ensures)
    (tells-trail config images n c.in-Err.fault
    (refusal-trail config images n list (omega arith) (omega (arith, inv.count, c.loop-trail-test.true)) monitor
    (λ m some lt. inv.told images tell held m some (omega (arith, lt))) c.in-Err.fault
    (c.in-Err.ensures.read images (read-tell g.D.Disk config c.args.bay.now c.loop-trail.bay inv.reads tell) (read-held g.D.Disk config c.args.bay.now c.loop-trail.bay images inv.reads held))))

pub returns-in-Err-clause-first : goal.returns-in-Err-clause-first
returns-in-Err-clause-first g c = λ images device damage tell held first some.
    let config = c.args.config.now in
    let inv = c.loop-trail.invariant in
    let now_tell = read-tell g.D.Disk config c.args.bay.now c.loop-trail.bay inv.reads tell in
    let now_held = read-held g.D.Disk config c.args.bay.now c.loop-trail.bay images inv.reads held in
    subst (TellsDamage device damage) (sym c.at.ensures)
    (first-trail config images (c.loop-trail.trail + 1) device damage c.in-Err.fault (omega arith) (omega (arith, inv.first images device damage tell held first some)) first
    (λ d is. c.in-Err.ensures.exact images d now_tell now_held is)
    (λ spells. c.in-Err.ensures.undamaged images now_tell now_held spells))

pub returns-in-Err-clause-reads : goal.returns-in-Err-clause-reads
returns-in-Err-clause-reads g c =
    reads-then g.D.Disk c.args.config.now g.met.D.Disk.same_on c.args.bay.now c.loop-trail.bay c.take_trail.new.bay c.loop-trail.invariant.reads c.take_trail.ensures.reads

pub returns-in-Err-clause-cause : goal.returns-in-Err-clause-cause
returns-in-Err-clause-cause g c =
    let n = c.loop-trail.trail + 1 in
    subst (HasFailed g.D.Disk.faults c.args.config.now c.args.bay.now c.take_trail.new.bay) (sym c.at.ensures)
    (failed-after g.D.Disk.faults c.args.config.now c.args.bay.now c.loop-trail.bay c.take_trail.new.bay _ c.loop-trail.invariant.reads.keeps.later c.take_trail.ensures.reads.keeps.later
    (trail-failed g.D.Disk.faults c.args.config.now c.loop-trail.bay c.take_trail.new.bay n c.in-Err.fault (inl (omega (arith, c.loop-trail.invariant.count, c.loop-trail-test.true))) c.in-Err.ensures.cause))

pub returns-clause-taken : goal.returns-clause-taken
returns-clause-taken g c = λ images list audit tell held trails commits volume low line number from.
    (c.loop-trail.invariant.taken images list audit tell held trails commits volume low line number from).0
    (omega (arith, (volume-audit c.args.config.now volume line c.requires.valid number).below, c.loop-trail.invariant.count, c.loop-trail-test.false))

pub returns-clause-told : goal.returns-clause-told
returns-clause-told g c = λ images tell held n some le. c.loop-trail.invariant.told images tell held n some (omega (arith, le, c.loop-trail.invariant.count, c.loop-trail-test.false))
