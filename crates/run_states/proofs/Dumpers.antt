-- The numbers of the volumes whose dump devices stand behind locks.
use Rattle.std.specs.Prelude.{◌≤◌}
use Rattle.audit_writer.specs.declared.name.DeviceRun as device_run
use Rattle.audit_writer.specs.declared.name.NodeRun as node_run
use Rattle.chronicle.specs.declared.run.Run as run
use Rattle.online_dump.specs.Locks.{dumper_number}
use Rattle.online_dump.specs.declared.lock.Dumper.{Dumper}
use Rattle.disk_model.specs.declared.disk.Disk as disk
use Rattle.node_machine.specs.declared.machine.Part.{Part}

-- a dump device behind a lock is that of one of eight volumes
pub dumper_within : {D J : Type 0} {d : disk.Ghosts D} {f : device_run.Ghosts J D} {g : node_run.Ghosts J} {h : run.Ghosts J Part} (w : Dumper D J d f g h) → (1 ≤ dumper_number w) × (dumper_number w ≤ 8)
dumper_within w = w.small
