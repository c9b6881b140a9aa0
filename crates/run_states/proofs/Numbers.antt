-- The numbers of the volumes whose discs stand behind locks.
use Rattle.std.specs.Prelude.{◌≤◌}
use Rattle.audit_writer.specs.declared.name.DeviceRun as device_run
use Rattle.audit_writer.specs.declared.name.NodeRun as node_run
use Rattle.chronicle.specs.declared.run.Run as run
use Rattle.disc_lock.specs.Locks.{number_of}
use Rattle.disc_lock.specs.declared.lock.DiscProcess.{DiscProcess}
use Rattle.disk_model.specs.declared.disk.Disk as disk
use Rattle.node_machine.specs.declared.machine.Part.{Part}

-- a disc behind a lock is that of one of eight volumes
pub disc_within : {D J : Type 0} {d : disk.Ghosts D} {f : device_run.Ghosts J D} {g : node_run.Ghosts J} {h : run.Ghosts J Part} (w : DiscProcess D J d f g h) → (1 ≤ number_of w) × (number_of w ≤ 8)
disc_within w = w.small
