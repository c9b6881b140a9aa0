-- No device of a node that is up is unfit for a run which names no lost volume.
use Rattle.std.proofs.Common.{ℕ, List, ⊎_elim}
use Rattle.disk_model.specs.Devices.{held_at}
use Rattle.disk_model.specs.Held.{Held}
use Rattle.disk_model.specs.declared.disk.Disk as disk
use Rattle.keyed_file.specs.Volume.{IsLost}
use Rattle.node_machine.specs.Same.{Among}
use Rattle.run_outcomes.specs.Attaching.{IsUnfitAt}
use Rattle.run_outcomes.specs.Run.{volumes_named}
use Rattle.tmf_model.specs.Config.{IsValidConfig}
use Rattle.tmf_model.specs.RecordMap.{RecordMap}
use Rattle.tmf_model.specs.declared.config.Config.{Config}
use Rattle.trail_files.specs.declared.damage.Damage.{Damage}
use Rattle.trail_files.specs.declared.monitor_record.MonitorRecord.{MonitorRecord}
use Rattle.volume_recovery.specs.VolumeNode.{volume_device}
use Rattle.run_standing.specs.Fit.{UndamagedLaw}
use Rattle.run_standing.specs.NodeUp.{IsNodeUp}
use Rattle.run_standing.proofs.FitDumps.{dump_clean}
use Rattle.run_standing.proofs.FitTrails.{Texts, trail_clean}
use Rattle.run_standing.proofs.FitVolumes.{volume_clean}

all_clean : (texts : Texts) (config : Config) (epoch : ℕ) (named : List ℕ) (held : ℕ → Held) (list : List MonitorRecord) (map : RecordMap) (device : ℕ) (damage : Damage)
    → IsValidConfig config → IsNodeUp config held list map epoch → ((volume : ℕ) → Among named volume → IsLost (held (volume_device volume)) → ⊥) → IsUnfitAt config epoch named held device damage → ⊥
all_clean texts config epoch named held list map device damage valid up have_labels unfit =
    ⊎_elim (λ trail. trail_clean texts config epoch named held list map up device damage trail.0 trail.1)
    (λ rest. ⊎_elim (λ v. volume_clean texts config epoch named held list map valid up v.0 v.1 v.2 damage (have_labels v.0) v.4)
    (λ d. dump_clean texts config epoch named held list map valid up d.0 d.1 d.2 damage d.4) rest) unfit

pub undamaged_law : Texts → {D : Type 0} (kind : disk.Ghosts D) → UndamagedLaw kind
undamaged_law texts {D} kind = λ config phase epoch old list map device damage valid up have_labels unfit.
    all_clean texts config epoch (volumes_named config phase) (held_at kind.held old) list map device damage valid up have_labels unfit.here
