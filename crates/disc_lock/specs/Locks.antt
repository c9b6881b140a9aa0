-- A disc behind a lock, and one whose lock is held.
use Rattle.std.specs.Prelude.{ℕ}
use Rattle.std.specs.Sync.Mutex.{mutex_guard_value}
use Rattle.disk_model.specs.declared.disk.Disk as disk
use Rattle.chronicle.specs.declared.run.Run as run
use Rattle.node_machine.specs.declared.machine.Part.{Part}
use Rattle.audit_writer.specs.declared.name.DeviceRun as device_run
use Rattle.audit_writer.specs.declared.name.NodeRun as node_run
use Rattle.disc_process.specs.Disc.{DiscView}
use Rattle.disc_lock.specs.declared.lock.DiscProcess.{DiscProcess}
use Rattle.disc_lock.specs.declared.guard.DiscGuard.{DiscGuard}

-- the number of the volume whose disc stands behind this lock
abbrev pub number_of : {D J : Type 0} {d : disk.Ghosts D} {f : device_run.Ghosts J D} {g : node_run.Ghosts J} {h : run.Ghosts J Part} → DiscProcess D J d f g h → ℕ
number_of process = process.number

-- the disc whose lock is held
abbrev pub held_disc : {D J : Type 0} {d : disk.Ghosts D} {f : device_run.Ghosts J D} {g : node_run.Ghosts J} {h : run.Ghosts J Part} → DiscGuard D J d f g h → DiscView D
held_disc guard = (mutex_guard_value guard.disc).state
