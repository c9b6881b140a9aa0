-- What a recovery or a rollforward makes of a node's images, at each of its moments.
use Rattle.std.specs.Prelude.{◌≡◌, ◌⊎◌, ℕ, ◌≤◌, List, [], ◌∷◌, ◌++◌, length, Option, Some, None, unwrap_or}
use Rattle.disk_model.specs.Held.{Held}
use Rattle.tmf_model.specs.Config.{IsValidConfig}
use Rattle.tmf_model.specs.RecordMap.{RecordMap}
use Rattle.tmf_model.specs.declared.config.Config.{Config}
use Rattle.tmf_model.specs.declared.config.Volume.{Volume}
use Rattle.trail_files.specs.AuditRecord.{audit_format}
use Rattle.trail_files.specs.MonitorOrder.{last_epoch}
use Rattle.trail_files.specs.MonitorRecord.{monitor_format}
use Rattle.trail_files.specs.Recovered.{kept_records}
use Rattle.trail_files.specs.StandsFor.{Base, IsNumber, StandsFor, next_position, position_of}
use Rattle.trail_files.specs.Text.{Spells}
use Rattle.trail_files.specs.declared.audit_record.AuditRecord.{AuditRecord}
use Rattle.trail_files.specs.declared.monitor_record.MonitorRecord.{MonitorRecord}
use Rattle.trail_files.specs.declared.monitor_record.MonitorRecord.TheVariants.{Start}
use Rattle.trail_files.specs.declared.rules.Rules.{Rules}
use Rattle.node_machine.specs.Made.{volume_of}

-- a base at the position where it was, with the map's values at some keys of the disc
abbrev pub IsWritten : Config → ℕ → RecordMap → Option Base → Base → Type 0
IsWritten config disc map_ None now = ⊥
IsWritten config disc map_ (Some old) now =
    (now.position ≡ old.position)
    × ((file : ℕ) (key : List ℕ) → volume_of config file ≡ disc → (now.records file key ≡ old.records file key) ⊎ (now.records file key ≡ map_ file key))

-- a base with the map's values on the disc, at the disc's next position
abbrev pub IsFounded : Config → ℕ → RecordMap → ℕ → Base → Type 0
IsFounded config disc map_ next now = (now.position ≡ next) × ((file : ℕ) (key : List ℕ) → volume_of config file ≡ disc → now.records file key ≡ map_ file key)

-- a volume is as it was, or it was written in part or founded anew, also where it was lost
abbrev pub IsRecovered : Config → ℕ → RecordMap → ℕ → Option Base → Option Base → Type 0
IsRecovered config disc map_ next old now = (now ≡ old) ⊎ ((base : Base) × (now ≡ Some base) × (IsWritten config disc map_ old base ⊎ IsFounded config disc map_ next base))

-- the position that the disc of a volume would give out next
abbrev pub next_of : ℕ → List AuditRecord → Option Base → Option Base → ℕ
next_of disc audit base dump = next_position (kept_records disc 0 audit) (position_of base) (position_of dump)

-- What a recovery or a rollforward leaves, whole or stopped: the monitor's list, perhaps with a new Start behind it; each trail's audit; and
-- each volume as it was or recovered so far. Of dumps it writes nothing.
pub record IsRecovering (config : Config) (rules : ℕ → Rules) (audit : ℕ → List AuditRecord) (old_bases dumps : ℕ → Option Base) (old_list : List MonitorRecord) (map_ : RecordMap)
    (images : ℕ → Held) (bases : ℕ → Option Base) (list : List MonitorRecord) : Type 0 where
  pub epoch : ℕ
  pub rises : unwrap_or (last_epoch old_list) 0 ≤ epoch
  pub list_is : (list ≡ old_list) ⊎ (list ≡ old_list ++ Start epoch ∷ [])
  pub monitor_spelled : Spells monitor_format (images 0) list
  pub audit_spelled : (trail : ℕ) → 1 ≤ trail → trail ≤ length config.trails → Spells (audit_format (rules trail)) (images trail) (audit trail)
  pub volumes : (disc : ℕ) (volume : Volume) → IsNumber config.volumes disc volume
      → IsRecovered config disc map_ (next_of disc (audit volume.trail) (old_bases disc) (dumps disc)) (old_bases disc) (bases disc)

-- Images that stand for a list and a map: whatever of a recovery or a rollforward was done to them, they stand for the same map.
abbrev pub RecoveryLaw : Type 0
RecoveryLaw =
    (config : Config) (rules : ℕ → Rules) (old_images images : ℕ → Held) (old_bases bases dumps : ℕ → Option Base) (old_list list : List MonitorRecord) (map_ : RecordMap)
    → IsValidConfig config
    → (stands : StandsFor config rules old_images old_bases dumps old_list map_)
    → IsRecovering config rules stands.audit old_bases dumps old_list map_ images bases list
    → StandsFor config rules images bases dumps list map_
