-- The images that a history's parts allow.
use Rattle.std.specs.Prelude.{◌≡◌, ◌⊎◌, ℕ, ◌≤◌, nat_le, List, ◌++◌, map, filter, length, Option, Some, None, slice_get}
use Rattle.disk_model.specs.Held.{Held}
use Rattle.tmf_model.specs.declared.config.Config.{Config}
use Rattle.tmf_model.specs.declared.config.Volume.{Volume}
use Rattle.tmf_model.specs.RecordMap.{RecordMap}
use Rattle.trail_files.specs.declared.audit_record.AuditRecord.{AuditRecord}
use Rattle.trail_files.specs.declared.monitor_record.MonitorRecord.{MonitorRecord}
use Rattle.trail_files.specs.declared.rules.Rules.{Rules}
use Rattle.trail_files.specs.AuditRecord.{audit_format}
use Rattle.trail_files.specs.MonitorRecord.{monitor_format}
use Rattle.trail_files.specs.StandsFor.{Base, IsNumber}
use Rattle.trail_files.specs.Text.{Spells}
use Rattle.node_machine.specs.declared.event.TrailEvent.{TrailEvent}
use Rattle.node_machine.specs.declared.event.TrailEvent.TheVariants.{Purge}
use Rattle.node_machine.specs.Parts.{Entry, Standing, DumpStart, DiscPart, TrailPart, MonitorPart, DumpPart, PartState}
use Rattle.node_machine.specs.Parts.PartState.{Disc, Trail, Monitor, Dump, Idle}
use Rattle.node_machine.specs.Made.{position_before, map_of, values_at, home_block, volume_of, drawing, drawn, lowering, lowered}
use Rattle.node_machine.specs.Trail.{landed_standing, offered_standing}
use Rattle.node_machine.specs.Monitor.{recorded, offered_car}
use Rattle.node_machine.specs.Dump.{landed_here, landed_label, offered_label, copied}
use Rattle.node_machine.specs.Opening.{disc_part, trail_part, monitor_part, dump_part}
use Rattle.node_machine.specs.Same.{Among}

-- what was landed, with or without what is offered
abbrev pub IsWithOrWithout : {A : Type 0} → List A → List A → List A → Type 0
IsWithOrWithout landed offered all = (all ≡ landed) ⊎ (all ≡ landed ++ offered)

-- The files below this one may be gone: it is 0, or a purge has named it or a later one.
abbrev pub MayBeGone : List TrailEvent → ℕ → Type 0
MayBeGone events file = (file ≡ 0) ⊎ ((below last : ℕ) × Among events (Purge below last) × (file ≤ below))

-- the records in files from this one on
abbrev pub records_from : ℕ → List Standing → List AuditRecord
records_from file standing = map (λ x. x.item) (filter (λ x. nat_le file x.file) standing)

-- a trail's image spells these records
pub record ShowsTrail (s : TrailPart) (audit : List AuditRecord) : Type 0 where
  pub old : List Standing
  pub told : s.old ≡ Some old
  pub all : List Standing
  pub is_all : IsWithOrWithout (old ++ landed_standing s.events) (offered_standing s.events) all
  pub least : ℕ
  pub gone : MayBeGone s.events least
  pub audit_is : audit ≡ records_from least all

-- the monitor's image spells these records behind those of the opening
abbrev pub ShowsMonitor : MonitorPart → List MonitorRecord → Type 0
ShowsMonitor s list = IsWithOrWithout (recorded s.events) (offered_car s.events) list

-- the position behind which the block was written last, or is being written
abbrev pub ShowsBlock : DiscPart → ℕ → ℕ → ℕ → Type 0
ShowsBlock s file block position = (position ≡ drawn (position_before s) s.events file block) ⊎ (drawing s.events file block ≡ Some position)

-- in this block the records are those behind the position
abbrev pub HasContent : DiscPart → List Entry → ℕ → ℕ → ℕ → RecordMap → Type 0
HasContent s entries file block position records =
    (key : List ℕ) → home_block s.config file key ≡ block → records file key ≡ values_at (map_of entries) s.events position file key

-- a volume's image spells this base
pub record ShowsVolume (s : DiscPart) (base : Base) : Type 0 where
  pub entries : List Entry
  pub told : s.base ≡ Some entries
  pub low : (base.position ≡ lowered s.low s.events) ⊎ (lowering s.events ≡ Some base.position)
  pub blocks : (file block : ℕ) → volume_of s.config file ≡ s.number → (position : ℕ) × ShowsBlock s file block position × HasContent s entries file block position base.records

-- a label of this run that an image of the dump device spells: the one that was written last, or the one that is being written
abbrev pub ShowsOwn : DumpPart → DumpStart → Type 0
ShowsOwn s label = (landed_here s.events ≡ Some label) ⊎ (offered_label s.events ≡ Some label)

-- a label that an image spells, from that of the opening on
abbrev pub ShowsLabel : DumpPart → DumpStart → Type 0
ShowsLabel s label = (landed_label s.rest s.events ≡ Some label) ⊎ (offered_label s.events ≡ Some label)

-- the dump of a label of this run: each block is as it was copied
pub record HasCopies (s : DumpPart) (d : DiscPart) (label : DumpStart) (content : Base) : Type 0 where
  pub entries : List Entry
  pub told : d.base ≡ Some entries
  pub start : content.position ≡ label.start
  pub blocks : (file block position : ℕ) → copied s.events label.number file block ≡ Some position → HasContent d entries file block position content.records

-- A dump device's image spells the dump of the opening, where no label of this run was written since; or one of this run.
abbrev pub ShowsDump : DumpPart → DiscPart → Option Base → Option Base → Type 0
ShowsDump s d old now =
    ((landed_here s.events ≡ None) × (now ≡ old))
    ⊎ ((label : DumpStart) × ShowsOwn s label × (content : Base) × (now ≡ Some content) × HasCopies s d label content)

-- a volume's image and its dump's: where the volume was lost at the opening, it is lost, and its dump is as it was
abbrev pub ShowsDisc : PartState → PartState → Option Base → Option Base → Option Base → Type 0
ShowsDisc (Disc s) (Dump u) old_dump (Some base) now_dump = ShowsVolume s base × ShowsDump u s old_dump now_dump
ShowsDisc Idle Idle old_dump now_base now_dump = (now_base ≡ None) × (now_dump ≡ old_dump)
ShowsDisc _ _ old_dump now_base now_dump = ⊥

-- the state of the part with this number is one of these
abbrev pub PartIs : List PartState → ℕ → (PartState → Type 0) → Type 0
PartIs states part says = (s : PartState) × (slice_get states part ≡ Some s) × says s

abbrev pub IfTrail : PartState → (TrailPart → Type 0) → Type 0
IfTrail (Trail s) says = says s
IfTrail _ says = ⊥

abbrev pub IfMonitor : PartState → (MonitorPart → Type 0) → Type 0
IfMonitor (Monitor s) says = says s
IfMonitor _ says = ⊥

-- The images of all devices are some that these states of the parts allow. The monitor's image spells the list, behind which `before`
-- stood at the opening; each trail's image spells its audit; each volume's image spells its base, and each dump device's its dump.
pub record Shows (config : Config) (rules : ℕ → Rules) (states : List PartState) (old_dumps : ℕ → Option Base) (before : List MonitorRecord)
    (images : ℕ → Held) (bases dumps : ℕ → Option Base) (list : List MonitorRecord) : Type 0 where
  pub monitor_spelled : Spells monitor_format (images 0) (before ++ list)
  pub monitor_shown : PartIs states monitor_part (λ s. IfMonitor s (λ m. ShowsMonitor m list))
  pub audit : ℕ → List AuditRecord
  pub audit_spelled : (number : ℕ) → 1 ≤ number → number ≤ length config.trails → Spells (audit_format (rules number)) (images number) (audit number)
  pub audit_shown : (number : ℕ) → 1 ≤ number → number ≤ length config.trails → PartIs states (trail_part number) (λ s. IfTrail s (λ t. ShowsTrail t (audit number)))
  pub volumes_shown : (number : ℕ) (volume : Volume) → IsNumber config.volumes number volume
      → PartIs states (disc_part number) (λ s. PartIs states (dump_part number) (λ u. ShowsDisc s u (old_dumps number) (bases number) (dumps number)))
