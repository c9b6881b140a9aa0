-- What the images of all of a node's devices stand for, volumes and dumps among them.
use Rattle.std.specs.Prelude.{◌≡◌, ◌≢◌, ℕ, ◌+◌, ◌≤◌, List, ◌∷◌, [], ◌++◌, length, All, Option, Some}
use Rattle.disk_model.specs.Held.{Held, IfThere}
use Rattle.tmf_model.specs.Config.{IsWithin}
use Rattle.tmf_model.specs.declared.config.Config.{Config}
use Rattle.tmf_model.specs.declared.config.Volume.{Volume}
use Rattle.tmf_model.specs.RecordMap.{RecordMap}
use Rattle.trail_files.specs.declared.audit_record.AuditRecord.{AuditRecord}
use Rattle.trail_files.specs.declared.monitor_record.MonitorRecord.{MonitorRecord}
use Rattle.trail_files.specs.declared.monitor_record.MonitorRecord.TheVariants.{Start}
use Rattle.trail_files.specs.AuditRecord.{audit_format}
use Rattle.trail_files.specs.Landed.{IsSettled}
use Rattle.trail_files.specs.MonitorRecord.{monitor_format}
use Rattle.trail_files.specs.StandsFor.{Base, IsNumber, StandsFor}
use Rattle.trail_files.specs.Text.{Spells}
use Rattle.trail_files.specs.Trail.{Rests}
use Rattle.trail_replay.specs.Rules.{rules_of}
use Rattle.keyed_file.specs.Volume.{SpellsVolume, label_of}
use Rattle.block_cache.specs.Volume.{HasBase, HasDump, HasNoLabel, RestsFor}
use Rattle.volume_restore.specs.Bases.{next_behind}
use Rattle.volume_restore.specs.Formatted.{empty_contents}

-- the device of a volume, and that of its dumps
abbrev pub volume_device : ℕ → ℕ
volume_device volume = 4 + volume

abbrev pub dump_device : ℕ → ℕ
dump_device volume = 12 + volume

-- The images of all devices, by their numbers, stand for the monitor list and the map: each volume has a base or no label, each dump
-- device a dump or none, and with the audit and the commits that the trails spell these give the map.
pub record StandsWithVolumes (config : Config) (images : ℕ → Held) (list : List MonitorRecord) (map : RecordMap) : Type 0 where
  pub bases : ℕ → Option Base
  pub dumps : ℕ → Option Base
  pub volumes_spelled : (volume : ℕ) (line : Volume) → IsNumber config.volumes volume line → HasBase config volume (images (volume_device volume)) (bases volume)
  pub dumps_spelled : (volume : ℕ) (line : Volume) → IsNumber config.volumes volume line → HasDump config volume (images (dump_device volume)) (dumps volume)
  pub stands : StandsFor config (rules_of config) images bases dumps list map

-- nothing is at risk of a dump's label and of its two bodies
abbrev pub DumpRests : Held → Type 0
DumpRests held = (file : ℕ) → IsWithin 1 3 file → IfThere held file IsSettled

-- The devices hold what stands for the list and the map, and nothing of it is at risk: so does each image of them. The files of a volume do not depend on
-- its low position.
pub record RestsWithVolumes (config : Config) (held : ℕ → Held) (list : List MonitorRecord) (map : RecordMap) : Type 0 where
  pub stands : StandsWithVolumes config held list map
  pub monitor_rests : Rests monitor_format (held 0) list
  pub audit_rests : (trail : ℕ) → 1 ≤ trail → trail ≤ length config.trails → Rests (audit_format (rules_of config trail)) (held trail) (stands.stands.audit trail)
  pub volumes_rest : (volume : ℕ) (line : Volume) → IsNumber config.volumes volume line → RestsFor (label_of config volume 1) (held (volume_device volume))
  pub dumps_rest : (volume : ℕ) (line : Volume) → IsNumber config.volumes volume line → DumpRests (held (dump_device volume))

-- each volume that has a label has its disc's next position as its low one
abbrev pub AreLowered : (config : Config) (images : ℕ → Held) (list : List MonitorRecord) (map : RecordMap) → StandsWithVolumes config images list map → Type 0
AreLowered config images list map stands = (volume : ℕ) (line : Volume) (base : Base) → IsNumber config.volumes volume line → stands.bases volume ≡ Some base
    → base.position ≡ next_behind volume base.position (stands.stands.audit line.trail)

-- The images stand for the list with the Start of this epoch behind it, and for the map; each volume that has a label is lowered; and no audit that they
-- spell is of that epoch.
pub record StartedWithVolumes (config : Config) (images : ℕ → Held) (list : List MonitorRecord) (epoch : ℕ) (map : RecordMap) : Type 0 where
  pub stands : StandsWithVolumes config images (list ++ Start epoch ∷ []) map
  pub lowered : AreLowered config images (list ++ Start epoch ∷ []) map stands
  pub unused : (trail : ℕ) (audit : List AuditRecord) → 1 ≤ trail → trail ≤ length config.trails → Spells (audit_format (rules_of config trail)) (images trail) audit
      → All (λ r. r.tx.epoch ≢ epoch) audit

-- The images are those of a node that was formatted: the monitor trail has the first Start, the other trails are empty, each volume has empty blocks and
-- the low position 1, and no dump device has a dump.
pub record IsFormatted (config : Config) (images : ℕ → Held) : Type 0 where
  pub monitor : Spells monitor_format (images 0) (Start 1 ∷ [])
  pub trails : (trail : ℕ) → 1 ≤ trail → trail ≤ length config.trails → Spells (audit_format (rules_of config trail)) (images trail) []
  pub volumes : (volume : ℕ) (line : Volume) → IsNumber config.volumes volume line → SpellsVolume (label_of config volume 1) (images (volume_device volume)) empty_contents
  pub dumps : (volume : ℕ) (line : Volume) → IsNumber config.volumes volume line → HasNoLabel (images (dump_device volume))
