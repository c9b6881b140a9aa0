-- Which images of each device the parts of a node allow.
use Rattle.std.specs.Prelude.{◌≡◌, ℕ, ◌≤◌, List, ◌++◌, length, Option, Some, None}
use Rattle.block_cache.specs.Volume.{HasBase, HasDump}
use Rattle.disk_model.specs.Held.{Held}
use Rattle.node_machine.specs.Opening.{disc_part, dump_part, monitor_part, trail_part}
use Rattle.node_machine.specs.Parts.{PartState}
use Rattle.node_machine.specs.Parts.PartState.{Disc, Dump, Idle}
use Rattle.node_machine.specs.Shows.{IfMonitor, IfTrail, PartIs, ShowsDump, ShowsMonitor, ShowsTrail, ShowsVolume}
use Rattle.tmf_model.specs.declared.config.Config.{Config}
use Rattle.tmf_model.specs.declared.config.Volume.{Volume}
use Rattle.trail_files.specs.AuditRecord.{audit_format}
use Rattle.trail_files.specs.MonitorRecord.{monitor_format}
use Rattle.trail_files.specs.StandsFor.{Base, IsNumber}
use Rattle.trail_files.specs.Text.{Spells}
use Rattle.trail_files.specs.declared.audit_record.AuditRecord.{AuditRecord}
use Rattle.trail_files.specs.declared.monitor_record.MonitorRecord.{MonitorRecord}
use Rattle.trail_replay.specs.Rules.{rules_of}
use Rattle.run_outcomes.specs.Devices.{dump_device, monitor_device, volume_device}
use Rattle.run_outcomes.specs.Found.{ToldAudit, ToldBase, ToldDump, ToldList}

-- a volume has a base that its disc's part allows; where it was lost at the opening, it is lost
abbrev pub ShowsBase : PartState → Option Base → Type 0
ShowsBase (Disc s) (Some base) = ShowsVolume s base
ShowsBase Idle now = now ≡ None
ShowsBase _ now = ⊥

-- a dump device has a dump that its part and its disc's allow; where the volume was lost at the opening, it has what it had
abbrev pub ShowsSealed : PartState → PartState → Option Base → Option Base → Type 0
ShowsSealed (Disc s) (Dump u) old now = ShowsDump u s old now
ShowsSealed Idle Idle old now = now ≡ old
ShowsSealed _ _ old now = ⊥

module _ (config : Config) (told : ℕ → Option Held) (states : List PartState) (image : Held) where
  -- the image of the monitor trail has the list of the opening, and behind it records that the monitor's part allows
  abbrev pub ShowsList : List MonitorRecord → Type 0
  ShowsList before = (list : List MonitorRecord) × Spells monitor_format image (before ++ list) × PartIs states monitor_part (λ s. IfMonitor s (λ m. ShowsMonitor m list))

  -- the image of an audit trail has audit that its part allows
  abbrev pub ShowsAudit : ℕ → Type 0
  ShowsAudit trail = (audit : List AuditRecord) × Spells (audit_format (rules_of config trail)) image audit × PartIs states (trail_part trail) (λ s. IfTrail s (λ t. ShowsTrail t audit))

  -- the image of a volume has a base that its disc's part allows, or is lost
  abbrev pub ShowsRecords : ℕ → Type 0
  ShowsRecords number = (now : Option Base) × HasBase config number image now × PartIs states (disc_part number) (λ s. ShowsBase s now)

  -- the image of a dump device has a dump that its part allows, or none
  abbrev pub ShowsCopy : ℕ → Option Base → Type 0
  ShowsCopy number old = (now : Option Base) × HasDump config number image now × PartIs states (disc_part number) (λ s. PartIs states (dump_part number) (λ u. ShowsSealed s u old now))

  -- The parts in these states allow the image of the device with this number, where at the opening the devices told this: the monitor trail's, an audit trail's, a
  -- volume's, or that of its dumps. Of a device that told nothing it says nothing.
  pub record ShowsDevice (device : ℕ) : Type 0 where
    pub monitor : (before : List MonitorRecord) → device ≡ monitor_device → ToldList config told before → ShowsList before
    pub trail : (old : List AuditRecord) → 1 ≤ device → device ≤ length config.trails → ToldAudit config told device old → ShowsAudit device
    pub volume : (number : ℕ) (line : Volume) (old : Option Base) → IsNumber config.volumes number line → device ≡ volume_device number → ToldBase config told number old
        → ShowsRecords number
    pub dump : (number : ℕ) (line : Volume) (base old : Option Base) → IsNumber config.volumes number line → device ≡ dump_device number
        → ToldBase config told number base → ToldDump config told number old → ShowsCopy number old
