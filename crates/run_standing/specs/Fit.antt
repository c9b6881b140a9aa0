-- Which devices keep no run from beginning for what they hold.
use Rattle.std.specs.Prelude.{ℕ, List}
use Rattle.disk_model.specs.Devices.{held_at}
use Rattle.disk_model.specs.declared.disk.Disk as disk
use Rattle.disk_model.specs.declared.fuse.Fuse.{Fuse}
use Rattle.keyed_file.specs.Volume.{IsLost}
use Rattle.node_machine.specs.Same.{Among}
use Rattle.run_outcomes.specs.Devices.{fuse_kind}
use Rattle.run_outcomes.specs.Run.{IsUnfit, volumes_named}
use Rattle.tmf_model.specs.Config.{IsValidConfig}
use Rattle.tmf_model.specs.RecordMap.{RecordMap}
use Rattle.tmf_model.specs.declared.config.Config.{Config}
use Rattle.tmf_model.specs.declared.script.Phase.{Phase}
use Rattle.trail_files.specs.declared.damage.Damage.{Damage}
use Rattle.trail_files.specs.declared.monitor_record.MonitorRecord.{MonitorRecord}
use Rattle.volume_recovery.specs.VolumeNode.{volume_device}
use Rattle.run_standing.specs.NodeUp.{IsNodeUp}

-- No device of a node that is up is unfit for a run which names no lost volume.
abbrev pub UndamagedLaw : {D : Type 0} → disk.Ghosts D → Type 0
UndamagedLaw {D} kind =
    (config : Config) (phase : Phase) (epoch : ℕ) (old : List (Fuse D)) (list : List MonitorRecord) (map : RecordMap) (device : ℕ) (damage : Damage)
    → IsValidConfig config → IsNodeUp config (held_at kind.held old) list map epoch
    → ((volume : ℕ) → Among (volumes_named config phase) volume → IsLost (held_at kind.held old (volume_device volume)) → ⊥)
    → IsUnfit (fuse_kind kind) config phase epoch old device damage → ⊥
