-- What a rollforward asks of images, beside those that it has read, and what it makes of devices at rest.
use Rattle.std.specs.Prelude.{◌≡◌, ◌⊎◌, ℕ, ◌==◌, List, Some, filter, length, not, IfErr, IfOk, MatchResult, Result}
use Rattle.disk_model.specs.Devices.{AreHeld, AreImages}
use Rattle.disk_model.specs.Held.{Held}
use Rattle.disk_model.specs.declared.fuse.Fuse.{Fuse}
use Rattle.tmf_model.specs.declared.config.Config.{Config}
use Rattle.tmf_model.specs.RecordMap.{RecordMap}
use Rattle.keyed_file.specs.Volume.{IsLost}
use Rattle.trail_files.specs.declared.audit_record.AuditRecord.{AuditRecord}
use Rattle.trail_files.specs.declared.monitor_record.MonitorRecord.{MonitorRecord}
use Rattle.trail_files.specs.AuditRecord.{audit_format}
use Rattle.trail_files.specs.MonitorRecord.{monitor_format}
use Rattle.trail_files.specs.StandsFor.{Base}
use Rattle.trail_files.specs.Text.{Spells}
use Rattle.block_cache.specs.Volume.{HasDump}
use Rattle.trail_replay.specs.Rules.{rules_of}
use Rattle.volume_recovery.specs.VolumeAnswers.{lost_among}
use Rattle.volume_recovery.specs.VolumeNode.{AreLowered, RestsWithVolumes, StandsWithVolumes, dump_device, volume_device}
use Rattle.rollforward.specs.Rolls.{IsFailure, trail_on}
use Rattle.rollforward.specs.declared.errors.RollError.{RollError}
use Rattle.rollforward.specs.declared.errors.RollError.TheVariants.{NotLost, NoDump, Failed, Damaged, NoMemory}

-- What the first images say to a rollforward of a volume the second say too: that the volume has no label, its dump, the monitor's list, and the audit of its trail.
pub record SaysSame (config : Config) (volume : ℕ) (held images : ℕ → Held) : Type 0 where
  pub lost : IsLost (held (volume_device volume)) → IsLost (images (volume_device volume))
  pub dump : (base : Base) → HasDump config volume (held (dump_device volume)) (Some base) → HasDump config volume (images (dump_device volume)) (Some base)
  pub monitor : (list : List MonitorRecord) → Spells monitor_format (held 0) list → Spells monitor_format (images 0) list
  pub trail : (audit : List AuditRecord) → Spells (audit_format (rules_of config (trail_on config volume))) (held (trail_on config volume)) audit → Spells (audit_format (rules_of config (trail_on config volume))) (images (trail_on config volume)) audit

-- of these numbers those that are not this one
abbrev pub without : ℕ → List ℕ → List ℕ
without number numbers = filter (λ n. not (n == number)) numbers

-- the same volumes are lost as were
abbrev pub HasSameLost : Config → (ℕ → Held) → (ℕ → Held) → Type 0
HasSameLost config was now = lost_among now (length config.volumes) ≡ lost_among was (length config.volumes)

-- of the volumes that were lost all but this one are
abbrev pub HasBack : Config → ℕ → (ℕ → Held) → (ℕ → Held) → Type 0
HasBack config volume was now = lost_among now (length config.volumes) ≡ without volume (lost_among was (length config.volumes))

-- which volumes are lost behind a refusal: those that were; or, where a device failed, perhaps all of these but the one that is rolled forward
abbrev pub MayHaveBack : Config → ℕ → (ℕ → Held) → (ℕ → Held) → RollError → Type 0
MayHaveBack config volume was now error = HasSameLost config was now ⊎ (IsFailure error × HasBack config volume was now)

-- the error tells no damage
abbrev pub IsUndamaged : RollError → Type 0
IsUndamaged NotLost = Unit {0}
IsUndamaged NoDump = Unit {0}
IsUndamaged (Failed device) = Unit {0}
IsUndamaged (Damaged device damage) = ⊥
IsUndamaged NoMemory = Unit {0}

-- The devices rest with the list and the map that they rested with, and with the volume that was lost; and each volume that has a label is lowered, where each was.
pub record IsRolledNode (config : Config) (volume : ℕ) (was now : ℕ → Held) (list : List MonitorRecord) (map : RecordMap) (rests : RestsWithVolumes config was list map) : Type 0 where
  pub now_rests : RestsWithVolumes config now list map
  pub lowered : AreLowered config was list map rests.stands → AreLowered config now list map now_rests.stands
  pub back : HasBack config volume was now

-- What a rollforward makes of devices that rested with a list and a map, and held these.
pub record RollsNode {D : Type 0} (held : D → Held) (config : Config) (volume : ℕ) (was : ℕ → Held) (list : List MonitorRecord) (map : RecordMap) (rests : RestsWithVolumes config was list map)
    (result : Result ℕ RollError) (new : List (Fuse D)) : Type 0 where
  -- a whole one leaves them at rest with the same list and map, and with the volume
  pub ok : IfOk result (λ next. (now : ℕ → Held) → AreHeld held new now → IsRolledNode config volume was now list map rests)
  -- however it ended, whatever a crash leaves of them stands for the same list and map
  pub every : (left : ℕ → Held) → AreImages held new left → StandsWithVolumes config left list map × MatchResult result (λ next. HasBack config volume was left) (MayHaveBack config volume was left)
  -- no damage is told of them
  pub undamaged : IfErr result IsUndamaged
