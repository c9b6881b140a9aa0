use Rattle.std.proofs.Common.{rules, ◌≡◌, inl, ⊎_elim, ℕ, IsTrue, length, refl, sym, ap, subst, ◌∙◌}
use Rattle.std.specs.Prelude.{IfErr}
use Rattle.disk_model.specs.Held.{Held, IsThere, Leaves}
use Rattle.keyed_file.specs.declared.label.Label.{Label}
use Rattle.keyed_file.specs.Volume.{IsLost, SpellsLabel, SpellsVolume, files_on, label_of}
use Rattle.block_cache.specs.Created.{OffVolume}
use Rattle.block_cache.specs.LabelDamage.{IsFineLabel, TellsAttach}
use Rattle.block_cache.specs.Volume.{RestsFor}
use Rattle.block_cache.proofs.Rests.{rests-of}
use Rattle.block_cache.specs.declared.fault.AttachFault.{AttachFault}
use Rattle.block_cache.specs.declared.fault.AttachFault.TheVariants as opening
use Rattle.trail_replay.specs.declared.replay.FoundFiles.{FoundFiles}
use Rattle.trail_replay.specs.Replay.{maps_of}
use Rattle.volume_restore.specs.Bases.{IsRewritten, MayRewrite}
use Rattle.volume_restore.specs.Damage.{AreBlocksFine}
use Rattle.volume_restore.specs.Found.{AreFoundFor}
use Rattle.volume_restore.specs.Inspected.{HasContents, TellsRecovered, TellsRefused, TellsRoom}
use Rattle.volume_restore.specs.Pass.{AreShown, TellsVolume}
use Rattle.volume_restore.specs.declared.inspect.Inspected.TheVariants.{Ready}
use Rattle.volume_restore.specs.Restored.{KeepsUnchanged, VolumeCause}
use Rattle.volume_restore.proofs.Inspections.{answered-err, answered-match, answered-ok, err-any, err-part, has-shown, if-err, if-ok, match-both, not-lost, ok-part, on-any, opened-label, refused-of, room-of, spelled-of}
use Rattle.volume_restore.proofs.Refusals.{cause-from}
use Rattle.volume_restore.proofs.Takings.{found-in}
use Rattle.volume_restore.proofs.Written.{off-same, unchanged-same}
use Rattle.volume_restore.proofs.recover.recover_volume.Goals as goal

pub returns-in-Err-clause-every : goal.returns-in-Err-clause-every
returns-in-Err-clause-every g c = λ was low audit list image told holds found leaves. (
  was,
  inl (
    c.at_rest.ensures.image (label_of c.args.config.now c.args.volume low) (g.E.Disk.held c.args.device.now) image was holds.0 holds.1 (let e : c.device-1.given.0 ≡ c.in-Err.refused.0.now = search rules in subst (λ (h : Held). Leaves h image) (ap g.E.Disk.held e ∙ c.in-Err.ensures.same) leaves),
    (λ file number within. inl refl),
  ),
)

pub returns-in-Err-clause-whole : goal.returns-in-Err-clause-whole
returns-in-Err-clause-whole g c = λ was low audit list told holds found.
    let wanted : Label = label_of c.args.config.now c.args.volume 1 in
    let held : Held = g.E.Disk.held c.args.device.now in
    let there = holds.0.label_file in
    if-ok c.recovered_fault-fault.result (λ _. c.in-Err.refused.1 ≡ opening.Lost) _
    (λ b is. absurd (let lost : IsLost held = subst (λ (f : AttachFault). TellsAttach wanted held f) is (c.in-Err.ensures.fault told) in lost there.0 there.1 there.2.gate))
    c.recovered_fault-fault.ensures.lost

pub returns-in-Err-clause-told : goal.returns-in-Err-clause-told
returns-in-Err-clause-told g c = λ told known. c.recovered_fault-fault.ensures.told c.args.config.now c.args.volume c.args.changes.now.files (g.E.Disk.held c.args.device.now) (c.in-Err.ensures.fault told)

pub returns-in-Err-clause-left : goal.returns-in-Err-clause-left
returns-in-Err-clause-left g c = λ told. let e : c.device-1.given.0 ≡ c.in-Err.refused.0.now = search rules in record { others = off-same c.args.config.now c.args.volume _ _ (ap g.E.Disk.held e ∙ c.in-Err.ensures.same); unchanged = λ known. unchanged-same c.args.config.now c.args.volume c.args.changes.now.files _ _ (ap g.E.Disk.held e ∙ c.in-Err.ensures.same); lost = λ lost. ap g.E.Disk.held e ∙ c.in-Err.ensures.same; refused = err-any c.recovered_fault-fault.result _ (λ x other. ap g.E.Disk.held e ∙ c.in-Err.ensures.same) }

pub returns-in-Err-clause-cause : goal.returns-in-Err-clause-cause
returns-in-Err-clause-cause g c =
    let e : c.device-1.given.0 ≡ c.in-Err.refused.0.now = search rules in
    subst (λ d. IfErr c.recovered_fault-fault.result (VolumeCause (g.E.Disk.faults c.args.device.now) (g.E.Disk.faults d))) (sym e) (c.recovered_fault-fault.ensures.cause _ _ c.in-Err.ensures.cause)

pub restore_volume-restored-requires-clause-found : goal.restore_volume-restored-requires-clause-found
restore_volume-restored-requires-clause-found g c = (ap (λ (fs : FoundFiles). length (maps_of fs)) c.files.ensures ∙ c.requires.fits.files, c.requires.fits.within _ _ c.next_of-next.ensures.1)

pub returns-in-Ok-clause-every : goal.returns-in-Ok-clause-every
returns-in-Ok-clause-every g c = λ was low audit list image told holds found leaves.
    let config = c.args.config.now in
    let volume = c.args.volume in
    let held : Held = g.E.Disk.held c.args.device.now in
    let same = c.in-Ok.ensures.same in
    let stands = c.in-Ok.ensures.stands told in
    let there = subst (λ (h : Held). IsThere h 1 (λ f. SpellsLabel c.in-Ok.opened.label f.bytes)) same stands.spelled in
    let is : c.in-Ok.opened.label ≡ label_of config volume low =
    opened-label config volume held c.label_spelling_law.ensures.prefix c.spelling_length_law.ensures.label c.in-Ok.opened.label low was c.in-Ok.ensures.opened.valid.label there holds.0 in
    let low_is : c.in-Ok.opened.label.low ≡ low = ap (λ (l : Label). l.low) is in
    let opened = stands.holds was (subst (λ (l : Label). SpellsVolume l (g.E.Disk.held c.in-Ok.opened.device.now) was) (sym is) (subst (λ (h : Held). SpellsVolume (label_of config volume low) h was) (sym same) holds.0))
    (subst (λ (l : Label). RestsFor l (g.E.Disk.held c.in-Ok.opened.device.now)) (sym is) (subst (RestsFor (label_of config volume low)) (sym same) holds.1)) in
    let found_in = found-in config volume c.in-Ok.opened.label.low audit list c.args.changes.now c.files.result.now c.next_of-next.ensures.0 c.next_of-next.result c.files.ensures c.next_of-next.ensures.1
    (subst (λ (n : ℕ). AreFoundFor config volume n audit list c.args.changes.now) (sym low_is) found) in
    let e : c.device-in-Ok-1.given.0 ≡ c.restore_volume-restored.new.blocks.device.now = search rules in
    subst (λ (n : ℕ). MayRewrite config volume n was audit list image) low_is
    (c.restore_volume-restored.ensures.every was was audit list image (subst IsTrue (sym c.in-Ok.ensures.keeps.tells) told) opened found_in (subst (λ (h : Held). Leaves h image) (ap g.E.Disk.held e) leaves))

pub returns-in-Ok-clause-whole : goal.returns-in-Ok-clause-whole
returns-in-Ok-clause-whole g c = λ was low audit list told holds found.
    let config = c.args.config.now in
    let volume = c.args.volume in
    let held : Held = g.E.Disk.held c.args.device.now in
    let same = c.in-Ok.ensures.same in
    let stands = c.in-Ok.ensures.stands told in
    let there = subst (λ (h : Held). IsThere h 1 (λ f. SpellsLabel c.in-Ok.opened.label f.bytes)) same stands.spelled in
    let is : c.in-Ok.opened.label ≡ label_of config volume low =
    opened-label config volume held c.label_spelling_law.ensures.prefix c.spelling_length_law.ensures.label c.in-Ok.opened.label low was c.in-Ok.ensures.opened.valid.label there holds.0 in
    let low_is : c.in-Ok.opened.label.low ≡ low = ap (λ (l : Label). l.low) is in
    let opened = stands.holds was (subst (λ (l : Label). SpellsVolume l (g.E.Disk.held c.in-Ok.opened.device.now) was) (sym is) (subst (λ (h : Held). SpellsVolume (label_of config volume low) h was) (sym same) holds.0))
    (subst (λ (l : Label). RestsFor l (g.E.Disk.held c.in-Ok.opened.device.now)) (sym is) (subst (RestsFor (label_of config volume low)) (sym same) holds.1)) in
    let found_in = found-in config volume c.in-Ok.opened.label.low audit list c.args.changes.now c.files.result.now c.next_of-next.ensures.0 c.next_of-next.result c.files.ensures c.next_of-next.ensures.1
    (subst (λ (n : ℕ). AreFoundFor config volume n audit list c.args.changes.now) (sym low_is) found) in
    let e : c.device-in-Ok-1.given.0 ≡ c.restore_volume-restored.new.blocks.device.now = search rules in
    if-ok c.answered.result _ _ (λ b done. (done.0, (λ image leaves. subst (λ (n : ℕ). IsRewritten config volume n was audit list image) low_is (done.1 image (subst (λ (h : Held). Leaves h image) (ap g.E.Disk.held e) leaves)))))
    (answered-ok c.restore_volume-restored.result c.answered.result _ c.answered.ensures.ok c.answered.ensures.err
    (c.restore_volume-restored.ensures.whole was was audit list (subst IsTrue (sym c.in-Ok.ensures.keeps.tells) told) opened found_in))

pub returns-in-Ok-clause-told : goal.returns-in-Ok-clause-told
returns-in-Ok-clause-told g c = λ told known.
    let held : Held = g.E.Disk.held c.args.device.now in
    let config = c.args.config.now in
    let volume = c.args.volume in
    let files = c.args.changes.now.files in
    let same = c.in-Ok.ensures.same in
    let stands = c.in-Ok.ensures.stands told in
    let label : IsFineLabel (label_of config volume 1) held = subst (IsFineLabel (label_of config volume 1)) same stands.fine in
    let there = subst (λ (h : Held). IsThere h 1 (λ f. SpellsLabel c.in-Ok.opened.label f.bytes)) same stands.spelled in
    let spelled = spelled-of config volume held c.in-Ok.opened.label c.in-Ok.ensures.opened.label c.in-Ok.ensures.opened.valid.label there in
    let opened : Held = g.E.Disk.held c.in-Ok.opened.device.now in
    match-both c.answered.result _ (TellsRecovered config volume files held) _ (TellsRefused config volume files held)
    (λ b fine. subst (TellsRecovered config volume files held) (sym fine.0) (
      record { label = label; spelled = spelled; blocks = subst (AreBlocksFine config volume) same fine.1.0 },
      room-of config volume held files (AreShown config volume held) (HasContents config volume held) Ready (has-shown config volume held)
          (subst (λ h. TellsRoom config volume files (AreShown config volume h) Ready) same (subst (λ fs. TellsRoom config volume fs (AreShown config volume opened) Ready) c.files.ensures fine.1.1)),
    ))
    (λ e tells. refused-of config volume held files e label spelled (has-shown config volume held) (subst (λ h. TellsVolume config volume files h e) same (subst (λ fs. TellsVolume config volume fs (g.E.Disk.held c.in-Ok.opened.device.now) e) c.files.ensures tells)))
    (answered-match c.restore_volume-restored.result c.answered.result _ _ c.answered.ensures.ok c.answered.ensures.err (c.restore_volume-restored.ensures.damage (subst IsTrue (sym c.in-Ok.ensures.keeps.tells) told)
    (λ is_fine. ⊎_elim (λ lost. absurd (not-lost config volume held label lost)) (λ (fine : AreBlocksFine config volume held). subst (AreBlocksFine config volume) (sym same) fine) (known is_fine))))

pub returns-in-Ok-clause-left : goal.returns-in-Ok-clause-left
returns-in-Ok-clause-left g c = λ told.
    let held : Held = g.E.Disk.held c.args.device.now in
    let stands = c.in-Ok.ensures.stands told in
    let label = subst (IsFineLabel (label_of c.args.config.now c.args.volume 1)) c.in-Ok.ensures.same stands.fine in
    let e : c.device-in-Ok-1.given.0 ≡ c.restore_volume-restored.new.blocks.device.now = search rules in
    let config = c.args.config.now in
    let volume = c.args.volume in
    let files = c.args.changes.now.files in
    let same = c.in-Ok.ensures.same in
    let opened : Held = g.E.Disk.held c.in-Ok.opened.device.now in
    let new : Held = g.E.Disk.held c.restore_volume-restored.new.blocks.device.now in
    record {
      others = subst (OffVolume (files_on volume 1 config.files) held) (sym (ap g.E.Disk.held e))
          (subst (λ (h : Held). OffVolume (files_on volume 1 config.files) h new) same (c.restore_volume-restored.ensures.frame.others (subst IsTrue (sym c.in-Ok.ensures.keeps.tells) told)));
      unchanged = λ known. subst (KeepsUnchanged config volume files held) (sym (ap g.E.Disk.held e))
          (subst (λ (h : Held). KeepsUnchanged config volume files h new) same
          (subst (λ (fs : FoundFiles). KeepsUnchanged config volume fs opened new) c.files.ensures
          (c.restore_volume-restored.ensures.frame.unchanged (subst IsTrue (sym c.in-Ok.ensures.keeps.tells) told)
          (λ is_fine. ⊎_elim (λ lost. absurd (not-lost config volume held label lost)) (λ (fine : AreBlocksFine config volume held). subst (AreBlocksFine config volume) (sym same) fine) (known is_fine)))));
      lost = λ lost. absurd (not-lost c.args.config.now c.args.volume held label lost);
      refused = if-err c.answered.result _ _ (λ x keeps other. ap g.E.Disk.held e ∙ (keeps other).same ∙ c.in-Ok.ensures.same)
          (answered-err c.restore_volume-restored.result c.answered.result _ c.answered.ensures.ok c.answered.ensures.err (err-part c.restore_volume-restored.result _ _ (c.restore_volume-restored.ensures.left (subst IsTrue (sym c.in-Ok.ensures.keeps.tells) told))));
    }

pub returns-in-Ok-clause-cause : goal.returns-in-Ok-clause-cause
returns-in-Ok-clause-cause g c =
    let first : ℕ = g.E.Disk.faults c.args.device.now in
    let before : ℕ = g.E.Disk.faults c.in-Ok.opened.device.now in
    let now : ℕ = g.E.Disk.faults c.restore_volume-restored.new.blocks.device.now in
    let e : c.device-in-Ok-1.given.0 ≡ c.restore_volume-restored.new.blocks.device.now = search rules in
    subst (λ d. IfErr c.answered.result (VolumeCause first (g.E.Disk.faults d))) (sym e)
    (if-err c.answered.result (VolumeCause before now) (VolumeCause first now) (λ x cause. cause-from first before now x c.in-Ok.ensures.keeps.later c.restore_volume-restored.ensures.frame.works.later cause)
    (answered-err c.restore_volume-restored.result c.answered.result _ c.answered.ensures.ok c.answered.ensures.err c.restore_volume-restored.ensures.cause))

pub returns-in-Err-clause-rests : goal.returns-in-Err-clause-rests
returns-in-Err-clause-rests g c = λ told rests.
    let e : c.device-1.given.0 ≡ c.in-Err.refused.0.now = search rules in
    on-any c.recovered_fault-fault.result _ (subst (RestsFor (label_of c.args.config.now c.args.volume 1)) (sym (ap g.E.Disk.held e ∙ c.in-Err.ensures.same)) rests)

pub returns-in-Ok-clause-rests : goal.returns-in-Ok-clause-rests
returns-in-Ok-clause-rests g c = λ told rests.
    let wanted : Label = label_of c.args.config.now c.args.volume 1 in
    let label : Label = c.in-Ok.opened.label in
    let files : label.files ≡ wanted.files = ap (λ (l : Label). l.files) c.in-Ok.ensures.opened.label in
    let before : RestsFor label (g.E.Disk.held c.in-Ok.opened.device.now) =
    rests-of wanted label (g.E.Disk.held c.in-Ok.opened.device.now) (sym files) (subst (RestsFor wanted) (sym c.in-Ok.ensures.same) rests) in
    let e : c.device-in-Ok-1.given.0 ≡ c.restore_volume-restored.new.blocks.device.now = search rules in
    if-ok c.answered.result _ _ (λ b done. subst (λ (h : Held). RestsFor wanted h) (sym (ap g.E.Disk.held e)) (rests-of label wanted (g.E.Disk.held c.restore_volume-restored.new.blocks.device.now) files done.1))
    (answered-ok c.restore_volume-restored.result c.answered.result _ c.answered.ensures.ok c.answered.ensures.err
    (ok-part c.restore_volume-restored.result _ _ _ (c.restore_volume-restored.ensures.left (subst IsTrue (sym c.in-Ok.ensures.keeps.tells) told))
    (λ done. done.leaves.rests (subst IsTrue (sym c.in-Ok.ensures.keeps.tells) told) before)))
