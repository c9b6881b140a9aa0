-- What a recovery makes of the images of a node with volumes, whole or stopped.
use Rattle.std.specs.Prelude.{◌≡◌, ◌⊎◌, ℕ, ◌≤◌, List, ◌∷◌, [], ◌++◌, length, Option}
use Rattle.disk_model.specs.Held.{Held}
use Rattle.tmf_model.specs.declared.config.Config.{Config}
use Rattle.tmf_model.specs.declared.config.Volume.{Volume}
use Rattle.trail_files.specs.declared.audit_record.AuditRecord.{AuditRecord}
use Rattle.trail_files.specs.declared.monitor_record.MonitorRecord.{MonitorRecord}
use Rattle.trail_files.specs.declared.monitor_record.MonitorRecord.TheVariants.{Start}
use Rattle.trail_files.specs.AuditRecord.{audit_format}
use Rattle.trail_files.specs.MonitorRecord.{monitor_format}
use Rattle.trail_files.specs.StandsFor.{Base, IsNumber}
use Rattle.trail_files.specs.Text.{Spells}
use Rattle.trail_replay.specs.Rules.{rules_of}
use Rattle.keyed_file.specs.Volume.{Contents, SpellsVolume, label_of}
use Rattle.block_cache.specs.Volume.{HasDump, HasNoLabel}
use Rattle.volume_restore.specs.Bases.{IsRewritten, MayRewrite}
use Rattle.volume_recovery.specs.Node.{next_epoch}
use Rattle.volume_recovery.specs.VolumeNode.{dump_device, volume_device}

-- An image of a volume that a recovery may leave of this one, by the volume's audit and the monitor's list: without a label where it had none; where it
-- had a label and contents, on the way of their recovery.
pub record MayLeave (config : Config) (volume : ℕ) (audit : List AuditRecord) (list : List MonitorRecord) (image left : Held) : Type 0 where
  pub lost : HasNoLabel image → HasNoLabel left
  pub rewritten : (low : ℕ) (was : Contents) → SpellsVolume (label_of config volume low) image was → MayRewrite config volume low was audit list left

-- the one that a whole recovery leaves: without a label where it had none; recovered where it had a label and contents
pub record LeavesWhole (config : Config) (volume : ℕ) (audit : List AuditRecord) (list : List MonitorRecord) (image left : Held) : Type 0 where
  pub lost : HasNoLabel image → HasNoLabel left
  pub rewritten : (low : ℕ) (was : Contents) → SpellsVolume (label_of config volume low) image was → IsRewritten config volume low was audit list left

-- each trail of the configuration is spelled as it was, and each dump device says what it said
pub record KeepOthers (config : Config) (images left : ℕ → Held) : Type 0 where
  pub trails : (trail : ℕ) (audit : List AuditRecord) → 1 ≤ trail → trail ≤ length config.trails
      → Spells (audit_format (rules_of config trail)) (images trail) audit → Spells (audit_format (rules_of config trail)) (left trail) audit
  pub dumps : (volume : ℕ) (line : Volume) (dump : Option Base) → IsNumber config.volumes volume line
      → HasDump config volume (images (dump_device volume)) dump → HasDump config volume (left (dump_device volume)) dump

-- The second images are such as a recovery of the first leaves, whole or stopped anywhere: perhaps with a new Start, and each volume recovered, or on the way.
pub record IsRecovering (config : Config) (images left : ℕ → Held) (list other : List MonitorRecord) : Type 0 where
  pub list_is : (other ≡ list) ⊎ (other ≡ list ++ Start (next_epoch list) ∷ [])
  pub monitor : Spells monitor_format (left 0) other
  pub others : KeepOthers config images left
  pub volumes : (volume : ℕ) (line : Volume) (audit : List AuditRecord) → IsNumber config.volumes volume line
      → Spells (audit_format (rules_of config line.trail)) (images line.trail) audit
      → MayLeave config volume audit list (images (volume_device volume)) (left (volume_device volume))

-- The second images are such as a whole recovery of the first leaves: with the new Start, and each volume that has a label recovered.
pub record IsRecovered (config : Config) (images left : ℕ → Held) (list : List MonitorRecord) : Type 0 where
  pub monitor : Spells monitor_format (left 0) (list ++ Start (next_epoch list) ∷ [])
  pub others : KeepOthers config images left
  pub volumes : (volume : ℕ) (line : Volume) (audit : List AuditRecord) → IsNumber config.volumes volume line
      → Spells (audit_format (rules_of config line.trail)) (images line.trail) audit
      → LeavesWhole config volume audit list (images (volume_device volume)) (left (volume_device volume))
