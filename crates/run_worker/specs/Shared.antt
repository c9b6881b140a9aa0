-- What the workers of a run share, and who may use it.
use Rattle.std.specs.Prelude.{◌≡◌, ℕ, true, List, IsSome, Some}
use Rattle.disk_model.specs.declared.disk.Disk as disk
use Rattle.tmf_model.specs.Config.{IsValidConfig}
use Rattle.tmf_model.specs.Script.{IsValidStep}
use Rattle.tmf_model.specs.Transid.{is_transid}
use Rattle.tmf_model.specs.declared.config.Config.{Config}
use Rattle.tmf_model.specs.declared.script.Step.{Step}
use Rattle.chronicle.specs.declared.run.Run as run
use Rattle.node_machine.specs.declared.machine.Part.{Part}
use Rattle.node_machine.specs.Made.{volume_of}
use Rattle.node_machine.specs.Opening.{Found, found_volume, worker_part}
use Rattle.audit_writer.specs.declared.lock.AuditWriter.{AuditWriter}
use Rattle.audit_writer.specs.declared.name.DeviceRun as device_run
use Rattle.audit_writer.specs.declared.name.NodeRun as node_run
use Rattle.txn_states.specs.Txn.{Txn}
use Rattle.disc_process.specs.Disc.{AreTrails}
use Rattle.disc_lock.specs.declared.lock.DiscProcess.{DiscProcess}
use Rattle.phase_one.specs.Stopped.{HasDisc, HaveDiscs}
use Rattle.backout.specs.Backed.{HasCome}

-- The configuration is that of the run, and valid; these are the writers of its trails; and each volume that was found has its disc among these.
pub record IsShared {D J : Type 0} {d : disk.Ghosts D} {f : device_run.Ghosts J D} {g : node_run.Ghosts J} {h : run.Ghosts J Part} (found : Found) (config : Config) (trails : List (AuditWriter D J d f g h)) (discs : List (DiscProcess D J d f g h)) : Type 0 where
  pub config_is : config ≡ found.config
  pub valid : IsValidConfig found.config
  pub trails_are : AreTrails found.config trails
  pub discs_are : (volume : ℕ) → IsSome (found_volume found volume) → HasDisc discs volume

-- The step is valid, and the volume of its file was found.
pub record IsRunStep (found : Found) (step : Step) : Type 0 where
  pub valid : IsValidStep found.config step
  pub there : IsSome (found_volume found (volume_of found.config step.file))

-- The identifier of the attempt is a valid one, and the seat is that of its worker's part.
pub record IsActor (t : Txn) : Type 0 where
  pub valid : is_transid t.tx ≡ true
  pub own : t.seat.part ≡ Some (worker_part t.tx.worker)

-- Where it had come to each disc that it had enlisted, and each of these was among those that are shared, it has and they are still.
pub record KeepsItsDiscs {D J : Type 0} {d : disk.Ghosts D} {f : device_run.Ghosts J D} {g : node_run.Ghosts J} {h : run.Ghosts J Part} (discs : List (DiscProcess D J d f g h)) (old new : Txn) : Type 0 where
  pub come : HasCome old → HasCome new
  pub have : HaveDiscs discs old.discs → HaveDiscs discs new.discs
