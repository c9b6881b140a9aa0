-- What it means that images of a node's devices stand for a list of monitor records and a map.
use Rattle.std.specs.Prelude.{◌≡◌, ℕ, ◌+◌, ◌≤◌, ◌<◌, IsSome, List, [], ◌∷◌, length, map, bytes_eq, All, Any, max, Option, Some, None, unwrap_or}
use Rattle.std.specs.List.{IsDistinct, last_or}
use Rattle.disk_model.specs.Held.{Held}
use Rattle.tmf_model.specs.declared.config.Config.{Config}
use Rattle.tmf_model.specs.declared.config.FileLine.{FileLine}
use Rattle.tmf_model.specs.declared.config.Volume.{Volume}
use Rattle.tmf_model.specs.Place.{block_of}
pub use Rattle.tmf_model.specs.Config.{IsNumber}
use Rattle.tmf_model.specs.RecordMap.{RecordMap}
use Rattle.trail_files.specs.declared.audit_record.AuditRecord.{AuditRecord}
use Rattle.trail_files.specs.declared.monitor_record.MonitorRecord.{MonitorRecord}
use Rattle.trail_files.specs.declared.rules.Rules.{Rules}
use Rattle.trail_files.specs.AuditRecord.{audit_format}
use Rattle.trail_files.specs.MonitorOrder.{last_epoch}
use Rattle.trail_files.specs.MonitorRecord.{monitor_format}
use Rattle.trail_files.specs.Recovered.{kept_records, recovered_value}
use Rattle.trail_files.specs.Text.{Spells}

-- what a volume, or a dump of it, says: its records, and the position of the first audit record that is not in them
pub record Base : Type 0 where
  pub records : RecordMap
  pub position : ℕ

-- no block of the file holds more than 62 keys: keys of one block that have a value, no two the same, are at most so many
abbrev pub HasRoom : FileLine → (List ℕ → Option (List ℕ)) → Type 0
HasRoom file values = (block : ℕ) (keys : List (List ℕ)) → IsDistinct bytes_eq keys → All (λ key. (block_of key file.blocks ≡ block) × IsSome (values key)) keys → length keys ≤ 62

-- the position behind the disc's last record, or, where it has none, the greatest of the positions of its base and its dump, or 1
abbrev pub next_position : List AuditRecord → Option ℕ → Option ℕ → ℕ
next_position [] base dump = max (unwrap_or base 1) (unwrap_or dump 1)
next_position (r ∷ rest) base dump = unwrap_or (last_or None (map (λ x. x.position) (r ∷ rest))) 0 + 1

-- a base or a dump, where there is one, and the audit kept from its position on give the volume's records of the map
abbrev pub GivesValues : Config → ℕ → List AuditRecord → List MonitorRecord → RecordMap → Option Base → Type 0
GivesValues config disc audit monitor map None = Unit {0}
GivesValues config disc audit monitor map (Some base) =
    (number : ℕ) (file : FileLine) (key : List ℕ) → IsNumber config.files number file → file.volume ≡ disc
    → map number key ≡ recovered_value base.records (kept_records disc base.position audit) monitor number key

-- its position is one that the disc has reached, and every position from it on is kept
abbrev pub IsKept : ℕ → List AuditRecord → ℕ → Option Base → Type 0
IsKept disc audit next None = Unit {0}
IsKept disc audit next (Some base) =
    (base.position ≤ next) × ((position : ℕ) → base.position ≤ position → position < next → Any (λ r. (r.disc ≡ disc) × (r.position ≡ position)) audit)

-- the position of a base, if there is one
abbrev pub position_of : Option Base → Option ℕ
position_of None = None
position_of (Some base) = Some base.position

-- a volume, with its base where it is not lost and its dump where there is one, and its trail's audit
pub record VolumeStandsFor (config : Config) (disc : ℕ) (audit : List AuditRecord) (base dump : Option Base) (monitor : List MonitorRecord) (map : RecordMap) : Type 0 where
  pub base_values : GivesValues config disc audit monitor map base
  pub dump_values : GivesValues config disc audit monitor map dump
  pub base_kept : IsKept disc audit (next_position (kept_records disc 0 audit) (position_of base) (position_of dump)) base
  pub dump_kept : IsKept disc audit (next_position (kept_records disc 0 audit) (position_of base) (position_of dump)) dump

-- The images of all devices, by their numbers, stand for a monitor list and a map. The monitor's image spells the list, and each
-- trail's image its audit, in which no epoch is above that of the list's last Start; no block has too many keys; and each
-- volume's base and dump, with the audit that is kept, give the map.
pub record StandsFor (config : Config) (rules : ℕ → Rules) (images : ℕ → Held) (bases dumps : ℕ → Option Base) (monitor : List MonitorRecord) (map : RecordMap) : Type 0 where
  pub monitor_spelled : Spells monitor_format (images 0) monitor
  pub audit : ℕ → List AuditRecord
  pub audit_spelled : (trail : ℕ) → 1 ≤ trail → trail ≤ length config.trails → Spells (audit_format (rules trail)) (images trail) (audit trail)
  pub epochs : (trail : ℕ) → 1 ≤ trail → trail ≤ length config.trails → All (λ r. r.tx.epoch ≤ unwrap_or (last_epoch monitor) 0) (audit trail)
  pub room : (number : ℕ) (file : FileLine) → IsNumber config.files number file → HasRoom file (map number)
  pub volumes : (disc : ℕ) (volume : Volume) → IsNumber config.volumes disc volume → VolumeStandsFor config disc (audit volume.trail) (bases disc) (dumps disc) monitor map
