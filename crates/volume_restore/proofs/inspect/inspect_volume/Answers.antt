use Rattle.std.proofs.Common.{rules, ◌≡◌, IsTrue, length, sym, ap, subst, ◌∙◌}
use Rattle.std.specs.Prelude.{IfErr}
use Rattle.disk_model.specs.Held.{Held, IsThere}
use Rattle.keyed_file.specs.Volume.{SpellsLabel, label_of}
use Rattle.block_cache.specs.LabelDamage.{IsFineLabel}
use Rattle.trail_replay.specs.declared.replay.FoundFiles.{FoundFiles}
use Rattle.trail_replay.specs.Replay.{maps_of}
use Rattle.volume_restore.specs.Damage.{AreBlocksFine}
use Rattle.volume_restore.specs.Inspected.{HasContents, TellsBad, TellsDamaged, TellsInspected, TellsRoom}
use Rattle.volume_restore.specs.Pass.{AreShown}
use Rattle.volume_restore.specs.Restored.{VolumeCause}
use Rattle.volume_restore.proofs.Inspections.{damaged-of, has-shown, inspected-of, match-both, room-of, spelled-of}
use Rattle.volume_restore.proofs.inspect.inspect_volume.Goals as goal

pub returns-in-Err-clause-told : goal.returns-in-Err-clause-told
returns-in-Err-clause-told g c = λ told. c.inspected_fault-fault.ensures.told c.args.config.now c.args.volume c.args.changes.now.files (g.E.Disk.held c.args.device.now) (c.in-Err.ensures.fault told)

pub returns-in-Err-clause-cause : goal.returns-in-Err-clause-cause
returns-in-Err-clause-cause g c =
    let e : c.device-1.given.0 ≡ c.in-Err.refused.0.now = search rules in
    subst (λ d. IfErr c.inspected_fault-fault.result (VolumeCause (g.E.Disk.faults c.args.device.now) (g.E.Disk.faults d))) (sym e) (c.inspected_fault-fault.ensures.cause _ _ c.in-Err.ensures.cause)

pub inspect_blocks-inspected-requires-clause-found : goal.inspect_blocks-inspected-requires-clause-found
inspect_blocks-inspected-requires-clause-found g c = (ap (λ (fs : FoundFiles). length (maps_of fs)) c.files.ensures ∙ c.requires.fits.files, c.requires.fits.within _ _ c.next_of-next.ensures.1)

pub returns-in-Ok-clause-told : goal.returns-in-Ok-clause-told
returns-in-Ok-clause-told g c = λ told.
    let held : Held = g.E.Disk.held c.args.device.now in
    let config = c.args.config.now in
    let volume = c.args.volume in
    let files = c.args.changes.now.files in
    let same = c.in-Ok.ensures.same in
    let stands = c.in-Ok.ensures.stands told in
    let label : IsFineLabel (label_of config volume 1) held = subst (IsFineLabel (label_of config volume 1)) same stands.fine in
    let there = subst (λ (h : Held). IsThere h 1 (λ f. SpellsLabel c.in-Ok.opened.label f.bytes)) same stands.spelled in
    let blocks = c.inspect_blocks-inspected.ensures.told (subst IsTrue (sym c.in-Ok.ensures.keeps.tells) told) in
    match-both c.inspect_blocks-inspected.result _ (TellsInspected config volume files held) _ (TellsDamaged config volume held)
    (λ one tells.
    inspected-of config volume held files one label (spelled-of config volume held c.in-Ok.opened.label c.in-Ok.ensures.opened.label c.in-Ok.ensures.opened.valid.label there) (subst (AreBlocksFine config volume) same tells.0)
    (room-of config volume held files (AreShown config volume held) (HasContents config volume held) one (has-shown config volume held)
    (subst (λ h. TellsRoom config volume files (AreShown config volume h) one) same (subst (λ fs. TellsRoom config volume fs (AreShown config volume (g.E.Disk.held c.in-Ok.opened.device.now)) one) c.files.ensures tells.1))))
    (λ e tells. damaged-of config volume held e label (subst (λ h. TellsBad config volume h e) same tells))
    blocks
