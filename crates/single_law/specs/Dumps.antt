-- What a run makes of the dumps of volumes.
use Rattle.std.specs.Prelude.{◌≡◌, ◌≢◌, ℕ, List, Contains, Some, length}
use Rattle.std.specs.List.{AllByRecursion}
use Rattle.block_cache.specs.Created.{IsSurelyLost}
use Rattle.block_cache.specs.Volume.{HasDump}
use Rattle.disk_model.specs.Devices.{DevicesTell, held_at}
use Rattle.disk_model.specs.Held.{Held, Leaves}
use Rattle.disk_model.specs.declared.disk.Disk as disk
use Rattle.disk_model.specs.declared.fuse.Fuse.{Fuse}
use Rattle.run_outcomes.specs.Devices.{devices, dump_device, fuse_kind}
use Rattle.run_outcomes.specs.Run.{HasRun}
use Rattle.run_outcomes.specs.declared.outcome.Outcome.{Outcome}
use Rattle.run_outcomes.specs.declared.outcome.Told.TheVariants.{Dumped}
use Rattle.run_standing.specs.NodeUp.{IsNodeUp}
use Rattle.tmf_model.specs.Config.{IsValidConfig}
use Rattle.tmf_model.specs.RecordMap.{RecordMap}
use Rattle.tmf_model.specs.declared.config.Config.{Config}
use Rattle.tmf_model.specs.declared.config.Volume.{Volume}
use Rattle.tmf_model.specs.declared.script.Item.{Item}
use Rattle.tmf_model.specs.declared.script.Item.TheVariants.{Dump}
use Rattle.tmf_model.specs.declared.script.Phase.{Phase}
use Rattle.trail_files.specs.StandsFor.{Base, IsNumber}
use Rattle.trail_files.specs.declared.monitor_record.MonitorRecord.{MonitorRecord}

-- the item is no dump of this volume
abbrev pub IsNoDumpOf : ℕ → Item → Type 0
IsNoDumpOf volume (Dump other) = other ≢ volume
IsNoDumpOf volume _ = Unit {0}

-- so is each item of each worker
abbrev pub DumpsNone : Phase → ℕ → Type 0
DumpsNone phase volume = AllByRecursion (λ items. AllByRecursion (IsNoDumpOf volume) items) phase.workers

-- whatever a crash leaves of the device of a volume's dumps, a dump of the volume is there, whole
abbrev pub IsSurelyDumped : Config → ℕ → Held → Type 0
IsSurelyDumped config volume held = (image : Held) → Leaves held image → (dump : Base) × HasDump config volume image (Some dump)

-- What a run makes of the dumps of a volume. Where none of its items is one, a device that surely had none has none. One that surely had one has one. And so has one of which an outcome tells that it is whole.
pub record DumpsGoOn {D : Type 0} (held : D → Held) (config : Config) (phase : Phase) (outcomes : List Outcome) (old new : List (Fuse D)) (volume : ℕ) : Type 0 where
  pub none : DumpsNone phase volume → IsSurelyLost (held_at held old (dump_device volume)) → IsSurelyLost (held_at held new (dump_device volume))
  pub kept : IsSurelyDumped config volume (held_at held old (dump_device volume)) → IsSurelyDumped config volume (held_at held new (dump_device volume))
  pub made : (outcome : Outcome) (start : ℕ) → Contains outcomes outcome → outcome.told ≡ Dumped volume start → IsSurelyDumped config volume (held_at held new (dump_device volume))

-- A run over the devices of a node that is up makes that of the dumps of each volume.
abbrev pub DumpsLaw : {D : Type 0} → disk.Ghosts D → Type 0
DumpsLaw {D} kind =
    (config : Config) (phase : Phase) (epoch : ℕ) (old new : List (Fuse D)) (outcomes : List Outcome) (list : List MonitorRecord) (map : RecordMap)
    → IsValidConfig config → length old ≡ devices → length new ≡ devices → DevicesTell kind.tells old → IsNodeUp config (held_at kind.held old) list map epoch
    → HasRun (fuse_kind kind) config phase epoch old new outcomes
    → (volume : ℕ) (line : Volume) → IsNumber config.volumes volume line → DumpsGoOn kind.held config phase outcomes old new volume
