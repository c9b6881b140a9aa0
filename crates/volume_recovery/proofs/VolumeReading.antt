-- What has been read of a node before its volumes are written.
use Rattle.std.specs.Prelude.{Option, Some, slice_get, unwrap_or}
use Rattle.std.proofs.Common.{◌≡◌, ◌≢◌, ◌⊎◌, inl, inr, ◌+◌, ◌-◌, ◌<◌, ◌≤◌, [], ℕ, List, length, refl, sym, ap, subst, ◌∙◌, ⊎_elim}
use Rattle.disk_model.specs.Held.{Held}
use Rattle.tmf_model.specs.declared.config.Config.{Config}
use Rattle.tmf_model.specs.declared.config.Volume.{Volume}
use Rattle.trail_files.specs.declared.audit_record.AuditRecord.{AuditRecord}
use Rattle.trail_files.specs.declared.damage.Damage.{Damage}
use Rattle.trail_files.specs.declared.monitor_record.MonitorRecord.{MonitorRecord}
use Rattle.trail_files.specs.AuditRecord.{audit_format}
use Rattle.trail_files.specs.MonitorOrder.{last_epoch}
use Rattle.trail_files.specs.MonitorRecord.{monitor_format}
use Rattle.trail_files.specs.StandsFor.{IsNumber}
use Rattle.trail_files.specs.Text.{Spells}
use Rattle.trail_replay.specs.Rules.{rules_of}
use Rattle.keyed_file.specs.Volume.{Contents, SpellsVolume, label_of}
use Rattle.volume_restore.specs.declared.changes.NodeChanges.{NodeChanges}
use Rattle.volume_restore.specs.declared.inspect.Inspected.TheVariants.{Full, Ready}
use Rattle.volume_restore.specs.Bases.{recovered_from}
use Rattle.volume_restore.specs.Inspected.{HasContents, TellsRoom}
use Rattle.volume_restore.proofs.Restoring.{item-of}
use Rattle.volume_recovery.specs.declared.errors.RecoverError.{RecoverError}
use Rattle.volume_recovery.specs.declared.errors.RecoverError.TheVariants.{Failed, Damaged, EpochsSpent, NoMemory}
use Rattle.volume_recovery.specs.Node.{AreAtRest, IsAtRest, SpellUpTo, next_epoch}
use Rattle.volume_recovery.specs.Recovery.{IsRefusal}
use Rattle.volume_recovery.specs.VolumeAnswers.{HasRoomFor, IfRecovered, IsFirstOverfull, IsFirstWrongVolume, IsRefusalWithVolumes, SpellTrails}
use Rattle.volume_recovery.specs.VolumeLoop.{AreFound, IsFirstWrong, IsFoundOf, TellsTrail, TellsVolumes}
use Rattle.volume_recovery.specs.VolumeNode.{volume_device}
use Rattle.volume_recovery.proofs.VolumeLeaving.{number-few, rests-for}
use Rattle.volume_recovery.proofs.VolumeRooms.{full-of, room-of}
use Rattle.volume_recovery.proofs.VolumeStanding.{chosen}

-- where each trail spells some audit, there is the audit of each
pub spell-trails : (config : Config) (images : ℕ → Held) (list : List MonitorRecord) → Spells monitor_format (images 0) list → SpellUpTo config images (length config.trails)
    → (audit : ℕ → List AuditRecord) × SpellTrails config images list audit
spell-trails config images list monitor up =
    let found = chosen {T = List ℕ} {A = List AuditRecord} (λ n name audit. Spells (audit_format (rules_of config n)) (images n) audit) config.trails [] (λ n name is. up n is.0 (number-few config.trails n name is)) in (
      found.0,
      record {
        monitor = monitor;
        each = λ trail some le. let name = item-of config.trails trail (record { above = some; below = le }) in found.1 trail name.0 name.1;
      },
    )

pub refusal-before : (config : Config) (images : ℕ → Held) (e : RecoverError) → IsRefusal config images e → IsRefusalWithVolumes config images e
refusal-before config images (Failed device) refusal = tt
refusal-before config images (Damaged device damage) refusal = inl refusal
refusal-before config images EpochsSpent refusal =
    let trails = spell-trails config images refusal.0.0 refusal.0.1 refusal.1 in (refusal.0.0, trails.0, trails.1, refusal.0.2)
refusal-before config images NoMemory refusal = tt

pub refusal-trails : (config : Config) (images : ℕ → Held) (e : RecoverError) → TellsTrail config images e → IsRefusalWithVolumes config images e
refusal-trails config images (Failed device) tells = tt
refusal-trails config images (Damaged device damage) tells = inl tells
refusal-trails config images EpochsSpent tells = absurd tells
refusal-trails config images NoMemory tells = tt

pub refusal-spent : (config : Config) (images : ℕ → Held) (list : List MonitorRecord) (e : RecoverError) → Spells monitor_format (images 0) list → SpellUpTo config images (length config.trails)
    → e ≡ EpochsSpent → last_epoch list ≡ Some 4294967295 → IsRefusalWithVolumes config images e
refusal-spent config images list e monitor up is spent =
    let trails = spell-trails config images list monitor up in subst (IsRefusalWithVolumes config images) (sym is) (list, trails.0, trails.1, spent)

module _ (config : Config) (images : ℕ → Held) (rest : AreAtRest images) (list : List MonitorRecord) (audit : ℕ → List AuditRecord) (changes : NodeChanges) (found : AreFound config images audit list changes) where
  has-contents : (volume low : ℕ) (was : Contents) → SpellsVolume (label_of config volume low) (images (volume_device volume)) was → HasContents config volume (images (volume_device volume)) was
  has-contents volume low was spells = (low, (spells, rests-for (label_of config volume low) (images (volume_device volume)) (rest (volume_device volume))))

  -- a volume with room by the changes has it by what recovery finds
  pub room-found : (volume : ℕ) (line : Volume) → IsNumber config.volumes volume line → TellsRoom config volume changes.files (HasContents config volume (images (volume_device volume))) Ready
      → IfRecovered config volume (audit line.trail) list (images (volume_device volume)) (HasRoomFor config volume)
  room-found volume line number ready low was spells =
      room-of config volume low line was (audit line.trail) list changes.files number (found volume line number low was spells).found (ready was (has-contents volume low was spells))

  full-found : (volume : ℕ) (line : Volume) (damage : Damage) → IsNumber config.volumes volume line → TellsRoom config volume changes.files (HasContents config volume (images (volume_device volume))) (Full damage)
      → IfRecovered config volume (audit line.trail) list (images (volume_device volume)) (λ map. IsFirstOverfull config volume map damage)
  full-found volume line damage number full low was spells =
      full-of config volume low line was (audit line.trail) list changes.files number (found volume line number low was spells).found damage (full was (has-contents volume low was spells))

  first-wrong : (device : ℕ) (damage : Damage) → IsFirstWrong config images changes device damage → IsFirstWrongVolume config images list audit device damage
  first-wrong device damage first = record {
    volume = first.volume;
    line = first.line;
    is_volume = first.is_volume;
    device_is = first.device_is;
    before = λ v l lt number. record { readable = first.readable v l lt number; room = room-found v l number (first.rooms v l lt number) };
    here = ⊎_elim (λ bad. inl bad) (λ full. inr (full.0, full-found first.volume first.line damage first.is_volume full.1)) first.here;
  }

  -- the inspection's refusal is that of the recovery
  pub refusal-volumes : (e : RecoverError) → SpellTrails config images list audit → last_epoch list ≢ Some 4294967295 → TellsVolumes config images changes e → IsRefusalWithVolumes config images e
  refusal-volumes (Failed device) trails unspent tells = tt
  refusal-volumes (Damaged device damage) trails unspent tells = inr (record { list = list; audit = audit; trails = trails; unspent = unspent; first = first-wrong device damage tells })
  refusal-volumes EpochsSpent trails unspent tells = absurd tells
  refusal-volumes NoMemory trails unspent tells = tt
