-- Images that stand for something have no damage that a recovery would meet.
use Rattle.std.specs.Prelude.{Bool, IsSome, Option, Some, None, false, true, if◌then◌else◌, ◌==◌, slice_get}
use Rattle.std.proofs.Common.{zero, suc, ◌≡◌, ◌⊎◌, ◌<◌, ◌-◌, ℕ, List, refl, sym, ap, subst, ◌∙◌, ⊎_elim, arith, eqb-true}
use Rattle.std.proofs.lemmas.List.Elements.{All-weaker}
use Rattle.disk_model.specs.Held.{Held}
use Rattle.tmf_model.specs.declared.config.Config.{Config}
use Rattle.tmf_model.specs.declared.config.FileLine.{FileLine}
use Rattle.tmf_model.specs.declared.config.Volume.{Volume}
use Rattle.tmf_model.specs.Commits.{numbered}
use Rattle.tmf_model.specs.Config.{IsDeclared, IsValidConfig}
use Rattle.tmf_model.specs.Place.{block_of}
use Rattle.tmf_model.specs.RecordMap.{RecordMap}
use Rattle.trail_files.specs.declared.audit_record.AuditRecord.{AuditRecord}
use Rattle.trail_files.specs.declared.damage.Damage.{Damage}
use Rattle.trail_files.specs.declared.monitor_record.MonitorRecord.{MonitorRecord}
use Rattle.trail_files.specs.Recovered.{kept_records, recovered_value}
use Rattle.trail_files.specs.StandsFor.{Base, GivesValues, IsNumber}
use Rattle.trail_replay.specs.Rules.{rules_of}
use Rattle.keyed_file.specs.Volume.{files_on, map_of}
use Rattle.block_cache.specs.Volume.{HasBase}
use Rattle.block_cache.specs.declared.fault.AttachFault.TheVariants as opening
use Rattle.volume_restore.specs.Bases.{recovered_from}
use Rattle.volume_restore.specs.Damage.{blocks_on}
use Rattle.volume_restore.specs.Inspected.{IsFineVolume, IsVolumeDamage}
use Rattle.volume_restore.proofs.Counting.{by-line, on_line}
use Rattle.volume_restore.proofs.Inspections.{not-bad, not-damaged}
use Rattle.trail_replay.specs.Texts.{IsFirstDamage}
use Rattle.volume_recovery.specs.VolumeAnswers.{IfRecovered, IsBehindTrails, IsFirstOverfull, SpellTrails}
use Rattle.volume_recovery.specs.VolumeNode.{StandsWithVolumes, volume_device}
use Rattle.tmf_cli.proofs.Acts.{Texts}
use Rattle.tmf_cli.proofs.Resting.{IsFine, IsUndamagedStand, trail-declared}

module _ (config : Config) (valid : IsValidConfig config) (fine : IsFine) (texts : Texts) (images : ℕ → Held) (list : List MonitorRecord) (map : RecordMap) (stands : StandsWithVolumes config images list map) where
  -- no trail is damaged
  no-trail : (device : ℕ) (damage : Damage) → IsFirstDamage config images device damage → ⊥
  no-trail zero damage first = texts.monitor_undamaged (rules_of config 0) (images 0) list damage stands.stands.monitor_spelled first.here
  no-trail (suc n) damage first =
      texts.audit_undamaged (rules_of config (suc n)) (images (suc n)) (stands.stands.audit (suc n)) damage (stands.stands.audit_spelled (suc n) (omega arith) first.is_trail) first.here

  -- a volume that has a base is fine, and one without a label is lost: of neither is there damage
  no-bad : (volume : ℕ) (damage : Damage) (base : Option Base) → HasBase config volume (images (volume_device volume)) base → IsVolumeDamage config volume (images (volume_device volume)) damage → ⊥
  no-bad volume damage None none bad =
      ⊎_elim (λ label. (none label.2.0 label.2.1).1 label.2.2.0) (λ block. (none block.0.0 block.0.1).1 block.0.2.0) bad
  no-bad volume damage (Some base) (was, spelled, records) bad =
      let whole = fine config volume base.position (images (volume_device volume)) was spelled in
      ⊎_elim
      (λ label. not-damaged config volume (images (volume_device volume)) (opening.Damaged damage) whole.label label (λ e. absurd (cc e)) (λ e. absurd (cc e)))
      (λ block. not-bad config volume (images (volume_device volume)) damage whole.blocks block.1)
      bad

  -- no block would hold too much, since the map has room
  no-full : (found : List MonitorRecord) (audit : ℕ → List AuditRecord) (volume : ℕ) (line : Volume) (damage : Damage) → SpellTrails config images found audit → IsNumber config.volumes volume line
      → IsFineVolume config volume (images (volume_device volume)) → IfRecovered config volume (audit line.trail) found (images (volume_device volume)) (λ m. IsFirstOverfull config volume m damage) → ⊥
  no-full found audit volume line damage trails is_volume whole full = of (stands.bases volume) refl (stands.volumes_spelled volume line is_volume)
    where
      same_list : found ≡ list
      same_list = texts.monitor (rules_of config 0) (images 0) found list trails.monitor stands.stands.monitor_spelled

      trail : IsDeclared config.trails line.trail
      trail = trail-declared config valid volume line is_volume

      same_audit : audit line.trail ≡ stands.stands.audit line.trail
      same_audit =
          texts.audit (rules_of config line.trail) (images line.trail) (audit line.trail) (stands.stands.audit line.trail) (trails.each line.trail trail.above trail.below)
          (stands.stands.audit_spelled line.trail trail.above trail.below)

      given : (base : Base) → GivesValues config volume (stands.stands.audit line.trail) list map (stands.bases volume) → stands.bases volume ≡ Some base
          → (number : ℕ) (file : FileLine) (key : List ℕ) → IsNumber config.files number file → file.volume ≡ volume
          → map number key ≡ recovered_value base.records (kept_records volume base.position (stands.stands.audit line.trail)) list number key
      given base values is = subst (GivesValues config volume (stands.stands.audit line.trail) list map) is values

      -- a file with blocks on the volume is one of the configuration that lies on it
      file-line : (file number : ℕ) → number < blocks_on config volume file → (line : FileLine) × IsNumber config.files file line × (line.volume ≡ volume) × (line.blocks ≡ blocks_on config volume file)
      file-line file number within = line-of (numbered config.files file) refl (by-line volume config.files file)
        where
          number-of : (n : ℕ) (one : FileLine) → numbered config.files n ≡ Some one → IsNumber config.files n one
          number-of zero one is = absurd (cc is)
          number-of (suc n) one is = let same : suc n - 1 ≡ n = omega arith in (omega arith, ap (slice_get config.files) same ∙ is)

          line-of : (o : Option FileLine) → numbered config.files file ≡ o → blocks_on config volume file ≡ on_line volume o
              → (line : FileLine) × IsNumber config.files file line × (line.volume ≡ volume) × (line.blocks ≡ blocks_on config volume file)
          line-of None is count = absurd (omega (arith, within, count))
          line-of (Some line) is count = on (line.volume == volume) refl
            where
              on : (b : Bool) → (line.volume == volume) ≡ b → (line : FileLine) × IsNumber config.files file line × (line.volume ≡ volume) × (line.blocks ≡ blocks_on config volume file)
              on true here = (line, number-of file line is, eqb-true line.volume volume here, sym (count ∙ ap (λ (b : Bool). if b then line.blocks else 0) here))
              on false here = let none : blocks_on config volume file ≡ 0 = count ∙ ap (λ (b : Bool). if b then line.blocks else 0) here in absurd (omega (arith, within, none))

      of : (base : Option Base) → stands.bases volume ≡ base → HasBase config volume (images (volume_device volume)) base → ⊥
      of None is none = (none whole.label.0 whole.label.1).1 whole.label.2.0
      of (Some base) is (was, spelled, records) =
          let first = full base.position was spelled in
          let at = file-line first.file first.number first.within in
          let values = given base (stands.stands.volumes volume line is_volume).base_values is in
          let same : (key : List ℕ) → map first.file key ≡ recovered_from config volume base.position was (audit line.trail) found first.file key =
          λ key. values first.file at.0 key at.1 at.2
          ∙ ap (λ b. recovered_value b (kept_records volume base.position (stands.stands.audit line.trail)) list first.file key) records
          ∙ ap (λ a. recovered_value (map_of (files_on volume 1 config.files) was) (kept_records volume base.position a) list first.file key) (sym same_audit)
          ∙ ap (λ l. recovered_value (map_of (files_on volume 1 config.files) was) (kept_records volume base.position (audit line.trail)) l first.file key) (sym same_list) in
          let keys = first.here in
          let few = stands.stands.room first.file at.0 at.1 first.number keys.0 keys.1.distinct
          (All-weaker (λ key. (block_of key (blocks_on config volume first.file) ≡ first.number) × IsSome (recovered_from config volume base.position was (audit line.trail) found first.file key))
          (λ key. (block_of key at.0.blocks ≡ first.number) × IsSome (map first.file key))
          (λ key one. (ap (block_of key) at.3 ∙ one.0, subst IsSome (sym (same key)) one.1)) keys.0 keys.1.valued) in
          omega (arith, few, keys.2)

  none-found : (device : ℕ) (damage : Damage) → IsFirstDamage config images device damage ⊎ IsBehindTrails config images device damage → ⊥
  none-found device damage found =
      ⊎_elim (no-trail device damage)
      (λ behind.
      let first = behind.first in
      ⊎_elim (λ bad. no-bad first.volume damage (stands.bases first.volume) (stands.volumes_spelled first.volume first.line first.is_volume) bad)
      (λ full. no-full behind.list behind.audit first.volume first.line damage behind.trails first.is_volume full.0 full.1) first.here)
      found

pub undamaged-stand : (config : Config) → IsValidConfig config → IsFine → Texts → IsUndamagedStand config
undamaged-stand config valid fine texts images list map device damage stands found = none-found config valid fine texts images list map stands device damage found
