-- The state of a dump device behind a lock.
use Rattle.std.specs.Prelude.{ℕ}
use Rattle.disk_model.specs.declared.disk.Disk as disk
use Rattle.chronicle.specs.declared.run.Run as run
use Rattle.node_machine.specs.declared.machine.Part.{Part}
use Rattle.audit_writer.specs.declared.name.DeviceRun as device_run
use Rattle.audit_writer.specs.declared.name.NodeRun as node_run
use Rattle.online_dump.specs.declared.lock.Dumper.{Dumper}

-- the number of the volume whose dumps stand behind this lock
abbrev pub dumper_number : {D J : Type 0} {d : disk.Ghosts D} {f : device_run.Ghosts J D} {g : node_run.Ghosts J} {h : run.Ghosts J Part} → Dumper D J d f g h → ℕ
dumper_number dumper = dumper.number
