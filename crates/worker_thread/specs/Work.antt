-- What the thread of a worker stands on.
use Rattle.std.specs.Prelude.{◌≡◌, ℕ, true, List, IsSome}
use Rattle.disk_model.specs.declared.disk.Disk as disk
use Rattle.tmf_model.specs.Script.{IsValidPhase}
use Rattle.tmf_model.specs.Transid.{is_between}
use Rattle.tmf_model.specs.declared.config.Config.{Config}
use Rattle.tmf_model.specs.declared.script.Phase.{Phase}
use Rattle.chronicle.specs.declared.run.Run as run
use Rattle.node_machine.specs.declared.machine.Part.{Part}
use Rattle.node_machine.specs.Opening.{Found, found_volume}
use Rattle.node_machine.specs.Same.{Among}
use Rattle.audit_writer.specs.declared.lock.AuditWriter.{AuditWriter}
use Rattle.audit_writer.specs.declared.name.DeviceRun as device_run
use Rattle.audit_writer.specs.declared.name.NodeRun as node_run
use Rattle.disc_lock.specs.declared.lock.DiscProcess.{DiscProcess}
use Rattle.online_dump.specs.declared.lock.Dumper.{Dumper}
use Rattle.run_items.specs.Volumes.{AreVolumes}
use Rattle.run_outcomes.specs.Run.{volumes_named}
use Rattle.run_worker.specs.Attempted.{IsNode}
use Rattle.run_worker.specs.Shared.{IsShared}

-- The items are valid over the run's configuration, and each volume that they name was found.
pub record IsPhaseOf (found : Found) (phase : Phase) : Type 0 where
  pub valid : IsValidPhase found.config phase
  pub there : (volume : ℕ) → Among (volumes_named found.config phase) volume → IsSome (found_volume found volume)

-- The epoch and the configuration are those of the run, which is valid; these are the writers of its trails; and each volume that was found has its disc among these, and its dump device.
pub record IsWork {D J : Type 0} {d : disk.Ghosts D} {f : device_run.Ghosts J D} {g : node_run.Ghosts J} {h : run.Ghosts J Part} (found : Found) (epoch : ℕ) (config : Config) (steps monitor : ℕ) (trails : List (AuditWriter D J d f g h)) (discs : List (DiscProcess D J d f g h)) (dumpers : List (Dumper D J d f g h)) : Type 0 where
  pub epoch_is : epoch ≡ found.epoch
  pub within : is_between 1 4294967295 epoch ≡ true
  pub shared : IsShared found config trails discs
  pub node : IsNode found.config steps monitor
  pub volumes : AreVolumes found trails discs dumpers
