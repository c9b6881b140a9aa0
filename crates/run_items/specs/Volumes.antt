-- What a worker's items find of the volumes of a run.
use Rattle.std.specs.Prelude.{◌≡◌, ◌==◌, ℕ, true, List, IsSome}
use Rattle.std.specs.List.{list_any}
use Rattle.disk_model.specs.declared.disk.Disk as disk
use Rattle.chronicle.specs.declared.run.Run as run
use Rattle.node_machine.specs.declared.machine.Part.{Part}
use Rattle.node_machine.specs.Opening.{Found, found_volume}
use Rattle.audit_writer.specs.declared.lock.AuditWriter.{AuditWriter}
use Rattle.audit_writer.specs.declared.name.DeviceRun as device_run
use Rattle.audit_writer.specs.declared.name.NodeRun as node_run
use Rattle.disc_process.specs.Disc.{AreTrails}
use Rattle.disc_lock.specs.Locks.{number_of}
use Rattle.disc_lock.specs.declared.lock.DiscProcess.{DiscProcess}
use Rattle.online_dump.specs.Locks.{dumper_number}
use Rattle.online_dump.specs.declared.lock.Dumper.{Dumper}

-- one of the discs is that of the volume with this number
abbrev pub HasDisc : {D J : Type 0} {d : disk.Ghosts D} {f : device_run.Ghosts J D} {g : node_run.Ghosts J} {h : run.Ghosts J Part} → List (DiscProcess D J d f g h) → ℕ → Type 0
HasDisc discs number = list_any (λ p. number_of p == number) discs ≡ true

-- one of the dump devices is that of the volume with this number
abbrev pub HasDumper : {D J : Type 0} {d : disk.Ghosts D} {f : device_run.Ghosts J D} {g : node_run.Ghosts J} {h : run.Ghosts J Part} → List (Dumper D J d f g h) → ℕ → Type 0
HasDumper dumpers number = list_any (λ p. dumper_number p == number) dumpers ≡ true

-- these are the writers of the run's trails, and each volume that was found has its disc among these, and its dump device
pub record AreVolumes {D J : Type 0} {d : disk.Ghosts D} {f : device_run.Ghosts J D} {g : node_run.Ghosts J} {h : run.Ghosts J Part} (found : Found) (trails : List (AuditWriter D J d f g h)) (discs : List (DiscProcess D J d f g h)) (dumpers : List (Dumper D J d f g h)) : Type 0 where
  pub trails_are : AreTrails found.config trails
  pub discs_are : (volume : ℕ) → IsSome (found_volume found volume) → HasDisc discs volume
  pub dumpers_are : (volume : ℕ) → IsSome (found_volume found volume) → HasDumper dumpers volume
