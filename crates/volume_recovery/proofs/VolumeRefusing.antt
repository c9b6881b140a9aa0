-- What the calls of one volume are to the recovery of a node.
use Rattle.std.specs.Prelude.{Option, None, Some, length, slice_get, slice_index}
use Rattle.std.proofs.Common.{◌≡◌, ◌≢◌, ◌⊎◌, inl, inr, ◌+◌, ◌<◌, ◌≤◌, ℕ, List, refl, sym, ap, subst, ◌∙◌, arith, ⊎_elim}
use Rattle.disk_model.specs.Fuse.{device_of}
use Rattle.disk_model.specs.Held.{Held, File, Leaves}
use Rattle.disk_model.specs.declared.fuse.Fuse.{Fuse}
use Rattle.tmf_model.specs.declared.config.Config.{Config}
use Rattle.tmf_model.specs.Config.{IsDeclared, IsValidConfig}
use Rattle.trail_files.specs.declared.audit_record.AuditRecord.{AuditRecord}
use Rattle.trail_files.specs.declared.damage.Damage.{Damage}
use Rattle.trail_files.specs.declared.damage.TrailFault.{TrailFault}
use Rattle.trail_files.specs.declared.damage.TrailFault.TheVariants as trail
use Rattle.trail_files.specs.declared.monitor_record.MonitorRecord.{MonitorRecord}
use Rattle.keyed_file.specs.Volume.{Contents, IsLost, SpellsVolume, label_of}
use Rattle.block_cache.specs.LabelDamage.{bad_label_file}
use Rattle.block_cache.specs.Volume.{HasNoLabel, RestsFor}
use Rattle.trail_replay.specs.declared.replay.FoundFiles.{FoundFiles}
use Rattle.volume_restore.specs.declared.changes.NodeChanges.{NodeChanges}
use Rattle.volume_restore.specs.declared.fault.VolumeFault.{VolumeFault}
use Rattle.volume_restore.specs.declared.fault.VolumeFault.TheVariants as fault
use Rattle.volume_restore.specs.Bases.{IsRewritten, MayRewrite}
use Rattle.volume_restore.specs.Found.{AreFoundFor}
use Rattle.volume_restore.specs.declared.inspect.Inspected.TheVariants.{Full, Ready}
use Rattle.volume_restore.specs.Inspected.{HasContents, HasFineBlocks, HoldsVolume, IsFineVolume, IsVolumeDamage, TellsDamaged, TellsRefused, TellsRoom}
use Rattle.volume_restore.proofs.Restoring.{item-of}
use Rattle.volume_recovery.specs.declared.errors.RecoverError.{RecoverError}
use Rattle.volume_recovery.specs.declared.errors.RecoverError.TheVariants.{Failed, Damaged, EpochsSpent, NoMemory}
use Rattle.volume_recovery.specs.Node.{IsAtRest}
use Rattle.volume_recovery.specs.Recovery.{IsRefusal}
use Rattle.volume_recovery.specs.Stop.{recover_error}
use Rattle.volume_recovery.specs.VolumeAnswers.{IsReadable}
use Rattle.volume_recovery.specs.VolumeLoop.{HoldsImage, IsFoundOf, IsPlain, IsSettledVolume, IsTurnedDown, IsUsed, TellsReady, TellsTrail, TellsVolume, TellsWrong, volume_error}
use Rattle.volume_recovery.specs.VolumeNode.{volume_device}
use Rattle.volume_recovery.specs.VolumeRecovery.{LeavesWhole, MayLeave}
use Rattle.volume_recovery.proofs.VolumeLeaving.{RestingLaw, lost-spells, rests-for}
use Rattle.volume_recovery.proofs.VolumeRooms.{not-both}

some-file : (a b : File) → ◌≡◌ {A = Option File} (Some a) (Some b) → a ≡ b
some-file a b e = cc

none-some : (o : Option ℕ) (at : ℕ) → o ≡ None → o ≡ Some at → ⊥
none-some o at none some = let e : None ≡ Some at = sym none ∙ some in cc

-- a volume that is lost, or of which nothing is wrong, is not damaged
pub readable-undamaged : (config : Config) (volume : ℕ) (image : Held) (damage : Damage) → IsReadable config volume image → IsVolumeDamage config volume image damage → ⊥
readable-undamaged config volume image damage readable damaged =
    ⊎_elim
    (λ lost. ⊎_elim
    (λ label. lost label.2.0 label.2.1 label.2.2.0)
    (λ block. lost block.0.0 block.0.1 block.0.2.0)
    damaged)
    (λ fine. ⊎_elim
    (λ label.
    let same : fine.label.0 ≡ label.2.0 = some-file fine.label.0 label.2.0 (sym fine.label.1 ∙ label.2.1) in
    none-some (bad_label_file (label_of config volume 1) label.2.0.bytes) damage.at (subst (λ (f : File). bad_label_file (label_of config volume 1) f.bytes ≡ None) same fine.label.2.1) label.2.2.1)
    (λ block. none-some _ damage.at (fine.blocks.fine block.1.file block.1.first.number block.1.first.within) block.1.first.here.2)
    damaged)
    readable

-- an inspection that is refused tells the volume's damage
pub tells-volume : (config : Config) (volume : ℕ) (image : Held) (it : VolumeFault) → TellsDamaged config volume image it → TellsVolume config volume image (volume_error (volume_device volume) it)
tells-volume config volume image fault.Failed tells = tt
tells-volume config volume image (fault.Damaged d) tells = (refl, tells)
tells-volume config volume image fault.NoMemory tells = tt

-- a volume of which nothing is wrong spells a label and contents
abbrev pub ContentsLaw : Type 0
ContentsLaw = (config : Config) (volume : ℕ) (image : Held) → IsFineVolume config volume image → (low : ℕ) × (was : Contents) × SpellsVolume (label_of config volume low) image was

-- one that has room has no first block without
ready-room : (config : Config) (volume : ℕ) (image : Held) (audit : List AuditRecord) (list : List MonitorRecord) (changes : NodeChanges) (damage : Damage) → ContentsLaw → IsDeclared config.volumes volume → IsAtRest image
    → IsFoundOf config volume image audit list changes → IsFineVolume config volume image → TellsRoom config volume changes.files (HasContents config volume image) Ready
    → TellsRoom config volume changes.files (HasContents config volume image) (Full damage) → ⊥
ready-room config volume image audit list changes damage law declared rest found fine room full =
    let one = law config volume image fine in
    let has : HasContents config volume image one.1 = (one.0, (one.2, rests-for (label_of config volume one.0) image rest)) in
    let line = item-of config.volumes volume declared in
    not-both config volume one.0 line.0 one.1 audit list changes.files line.1 (found one.0 one.1 one.2).found damage (room one.1 has) (full one.1 has)

-- the recovery of a volume that is ready tells nothing of its bytes
pub ready-plain : (config : Config) (volume : ℕ) (image : Held) (audit : List AuditRecord) (list : List MonitorRecord) (changes : NodeChanges) (e : RecoverError) → ContentsLaw → IsDeclared config.volumes volume
    → IsAtRest image → IsFoundOf config volume image audit list changes → TellsReady config volume changes.files image → TellsWrong config volume changes.files image e → IsPlain e
ready-plain config volume image audit list changes (Failed number) law declared rest found ready tells = tt
ready-plain config volume image audit list changes (Damaged number d) law declared rest found ready tells =
    ⊎_elim
    (λ damaged. readable-undamaged config volume image d ready.0 damaged)
    (λ full. ready-room config volume image audit list changes d law declared rest found full.0 ready.1 full.1)
    tells.1
ready-plain config volume image audit list changes EpochsSpent law declared rest found ready tells = absurd tells
ready-plain config volume image audit list changes NoMemory law declared rest found ready tells = tt

some-fuse : {D : Type 0} (a b : Fuse D) → ◌≡◌ {A = Option (Fuse D)} (Some a) (Some b) → a ≡ b
some-fuse a b e = cc

-- the device in this place holds the image
pub holds-there : {D : Type 0} (held : D → Held) (images : ℕ → Held) (n : ℕ) (ys : List (Fuse D)) (one : Fuse D) → slice_get ys n ≡ Some one → held (device_of one) ≡ images n → HoldsImage held images n ys
holds-there held images n ys one there same fuse is = ap (λ f. held (device_of f)) (some-fuse fuse one (sym is ∙ there)) ∙ same

-- what the recovery of one volume is refused for
pub turned-down : {D : Type 0} (held : D → Held) (config : Config) (volume : ℕ) (files : FoundFiles) (images : ℕ → Held) (after : List (Fuse D)) (it : VolumeFault)
    → TellsRefused config volume files (images (volume_device volume)) it → (it ≢ fault.Failed → HoldsImage held images (volume_device volume) after)
    → IsTurnedDown held config volume files images after (volume_error (volume_device volume) it)
turned-down held config volume files images after fault.Failed tells same = record { wrong = tt; unwritten = inl tt }
turned-down held config volume files images after (fault.Damaged d) tells same = record { wrong = (refl, tells); unwritten = inr (same (λ e. absurd (cc e))) }
turned-down held config volume files images after fault.NoMemory tells same = record { wrong = tt; unwritten = inl tt }

-- what no damage is told by is no damage of a trail
pub plain-trail : (config : Config) (images : ℕ → Held) (e : RecoverError) → IsPlain e → TellsTrail config images e
plain-trail config images (Failed number) plain = tt
plain-trail config images (Damaged number damage) plain = absurd plain
plain-trail config images EpochsSpent plain = absurd plain
plain-trail config images NoMemory plain = tt

pub tells-trail : (config : Config) (images : ℕ → Held) (n : ℕ) (it : TrailFault) → IsRefusal config images (recover_error n it) → TellsTrail config images (recover_error n it)
tells-trail config images n trail.Failed refusal = tt
tells-trail config images n trail.NoMemory refusal = tt
tells-trail config images n (trail.Damaged damage) refusal = refusal

no-label-lost : (image : Held) → HasNoLabel image → IsLost image
no-label-lost image none f is = (none f is).1

-- the recovery of one volume leaves what it may
pub recover-may : (config : Config) (volume : ℕ) (audit : List AuditRecord) (list : List MonitorRecord) (image old new left : Held) (changes : NodeChanges) → RestingLaw → old ≡ image → IsAtRest image
    → IsFoundOf config volume image audit list changes
    → ((was : Contents) (low : ℕ) → HoldsVolume config volume low old was → AreFoundFor config volume low audit list changes → MayRewrite config volume low was audit list left)
    → (IsLost old → new ≡ old) → Leaves new left → MayLeave config volume audit list image left
recover-may config volume audit list image old new left changes resting same rest found every unwritten leaves = record {
  lost = λ none. resting config volume None image left none rest
      (subst (λ h. Leaves h left) (unwritten (subst IsLost (sym same) (no-label-lost image none)) ∙ same) leaves);
  rewritten = λ low was spells.
      every was low (subst (λ h. SpellsVolume (label_of config volume low) h was) (sym same) spells, rests-for (label_of config volume low) old (subst IsAtRest (sym same) rest)) (found low was spells);
}

-- and what it leaves as a whole
pub recover-whole : (config : Config) (volume : ℕ) (audit : List AuditRecord) (list : List MonitorRecord) (image old new left : Held) (changes : NodeChanges) → RestingLaw → old ≡ image → IsAtRest image
    → IsFoundOf config volume image audit list changes
    → ((was : Contents) (low : ℕ) → HoldsVolume config volume low old was → AreFoundFor config volume low audit list changes → IsRewritten config volume low was audit list left)
    → (IsLost old → new ≡ old) → Leaves new left → LeavesWhole config volume audit list image left
recover-whole config volume audit list image old new left changes resting same rest found whole unwritten leaves = record {
  lost = λ none. resting config volume None image left none rest
      (subst (λ h. Leaves h left) (unwritten (subst IsLost (sym same) (no-label-lost image none)) ∙ same) leaves);
  rewritten = λ low was spells.
      whole was low (subst (λ h. SpellsVolume (label_of config volume low) h was) (sym same) spells, rests-for (label_of config volume low) old (subst IsAtRest (sym same) rest)) (found low was spells);
}

-- of a volume that can be read no block is wrong, unless it is lost
pub fine-blocks : (config : Config) (volume : ℕ) (image held : Held) → held ≡ image → IsReadable config volume image → HasFineBlocks config volume held
fine-blocks config volume image held same readable = subst (HasFineBlocks config volume) (sym same) (⊎_elim (λ lost. inl lost) (λ fine. inr fine.blocks) readable)

-- it leaves nothing of the volume at risk
pub settled-volume : (config : Config) (volume : ℕ) (image old new : Held) → old ≡ image → IsAtRest image → (RestsFor (label_of config volume 1) old → RestsFor (label_of config volume 1) new)
    → (IsLost old → new ≡ old) → IsSettledVolume config volume image new
settled-volume config volume image old new same rest rests unwritten = record {
  rests = rests (subst (RestsFor (label_of config volume 1)) (sym same) (rests-for (label_of config volume 1) image rest));
  lost = λ lost. unwritten (subst IsLost (sym same) lost) ∙ same;
}

pub volume-used : (config : Config) (volume : ℕ) → IsDeclared config.volumes volume → IsUsed config (volume_device volume)
volume-used config volume is = inr (omega (arith, is.above), omega (arith, is.below))

pub volume-few : (config : Config) (volume : ℕ) → IsValidConfig config → IsDeclared config.volumes volume → volume ≤ 8
volume-few config volume valid is = omega (arith, is.below, valid.volumes.few)
