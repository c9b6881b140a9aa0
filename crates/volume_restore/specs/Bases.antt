-- What a volume's image says of its disc, and what its recovery makes of that, from its audit and the monitor's list alone.
use Rattle.std.specs.Prelude.{◌≡◌, ◌⊎◌, ℕ, List, Some, None}
use Rattle.std.specs.Option.{option_map_or}
use Rattle.disk_model.specs.Held.{Held}
use Rattle.tmf_model.specs.declared.config.Config.{Config}
use Rattle.tmf_model.specs.Commits.{numbered}
use Rattle.tmf_model.specs.RecordMap.{RecordMap, empty_map}
use Rattle.trail_files.specs.declared.audit_record.AuditRecord.{AuditRecord}
use Rattle.trail_files.specs.declared.monitor_record.MonitorRecord.{MonitorRecord}
use Rattle.trail_files.specs.Recovered.{kept_records, recovered_value}
use Rattle.trail_files.specs.StandsFor.{Base, next_position}
use Rattle.keyed_file.specs.Volume.{Contents, SpellsVolume, files_on, label_of, map_of}
use Rattle.block_cache.specs.Rewrite.{AreContentsOf}
use Rattle.block_cache.specs.Whole.{IsOnTheWay}

-- what a volume says that holds no records and has had no audit
abbrev pub empty_base : Base
empty_base = record { records = empty_map; position = 1 }

-- the position that a disc gives out next, by its label's low position and its trail alone
abbrev pub next_behind : ℕ → ℕ → List AuditRecord → ℕ
next_behind disc low audit = next_position (kept_records disc 0 audit) (Some low) None

-- the volume that a file lies on
abbrev pub volume_on : Config → ℕ → ℕ
volume_on config file = option_map_or (λ line. line.volume) (numbered config.files file) 0

-- the records of a volume with these contents
abbrev pub records_of : Config → ℕ → Contents → RecordMap
records_of config volume was = map_of (files_on volume 1 config.files) was

-- what recovery finds of the keys of a volume with these contents and this low position
abbrev pub recovered_from : Config → ℕ → ℕ → Contents → List AuditRecord → List MonitorRecord → RecordMap
recovered_from config volume low was audit list = recovered_value (records_of config volume was) (kept_records volume low audit) list

-- what a volume with these contents and this low position says
abbrev pub base_of : Config → ℕ → ℕ → Contents → Base
base_of config volume low was = record { records = records_of config volume was; position = low }

-- A base on the way of a recovery: at the old position, each key with the value that it had or the recovered one.
pub record IsPartlyRecovered (config : Config) (volume low : ℕ) (was : Contents) (audit : List AuditRecord) (list : List MonitorRecord) (base : Base) : Type 0 where
  pub position : base.position ≡ low
  pub values : (file : ℕ) (key : List ℕ) → (base.records file key ≡ records_of config volume was file key) ⊎ (base.records file key ≡ recovered_from config volume low was audit list file key)

-- A base that is recovered: at the disc's next position, each key of the volume's files with the recovered value.
pub record IsRecoveredBase (config : Config) (volume low : ℕ) (was : Contents) (audit : List AuditRecord) (list : List MonitorRecord) (base : Base) : Type 0 where
  pub position : base.position ≡ next_behind volume low audit
  pub values : (file : ℕ) (key : List ℕ) → volume_on config file ≡ volume → base.records file key ≡ recovered_from config volume low was audit list file key

-- An image of a volume that is being recovered: the old label, with blocks as they were or recovered; or the next low position, with all blocks recovered.
abbrev pub MayRewrite : Config → ℕ → ℕ → Contents → List AuditRecord → List MonitorRecord → Held → Type 0
MayRewrite config volume low was audit list image =
    IsOnTheWay (label_of config volume low) (next_behind volume low audit) was (recovered_from config volume low was audit list) image

-- An image of a volume that is recovered: the next low position, with all blocks recovered.
abbrev pub IsRewritten : Config → ℕ → ℕ → Contents → List AuditRecord → List MonitorRecord → Held → Type 0
IsRewritten config volume low was audit list image =
    (shown : Contents) × SpellsVolume (label_of config volume (next_behind volume low audit)) image shown
    × AreContentsOf (files_on volume 1 config.files) (recovered_from config volume low was audit list) shown
