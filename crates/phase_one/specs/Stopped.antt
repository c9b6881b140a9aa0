-- The discs of a run, and why phase one was stopped.
use Rattle.std.specs.Prelude.{◌≡◌, ◌==◌, true, ℕ, List, All}
use Rattle.std.specs.List.{list_any}
use Rattle.disk_model.specs.declared.disk.Disk as disk
use Rattle.chronicle.specs.declared.run.Run as run
use Rattle.chronicle.specs.Seats.{HasNewlySeen}
use Rattle.tmf_model.specs.declared.config.Config.{Config}
use Rattle.node_machine.specs.declared.machine.Part.{Part}
use Rattle.node_machine.specs.declared.event.By.TheVariants.{Attempt}
use Rattle.node_machine.specs.declared.event.Event.TheVariants.{OfTrail}
use Rattle.node_machine.specs.declared.event.TrailEvent.TheVariants as trail
use Rattle.node_machine.specs.Opening.{trail_part}
use Rattle.node_machine.specs.Same.{Among}
use Rattle.node_machine.specs.Trail.{trail_of}
use Rattle.audit_writer.specs.declared.name.DeviceRun as device_run
use Rattle.audit_writer.specs.declared.name.NodeRun as node_run
use Rattle.audit_writer.specs.declared.lock.FlushRefused.{FlushRefused}
use Rattle.audit_writer.specs.declared.lock.FlushRefused.TheVariants as refused
use Rattle.txn_states.specs.Txn.{Txn}
use Rattle.disc_lock.specs.Locks.{number_of}
use Rattle.disc_lock.specs.declared.lock.DiscProcess.{DiscProcess}
use Rattle.phase_one.specs.declared.phase.Stopped.{Stopped}
use Rattle.phase_one.specs.declared.phase.Stopped.TheVariants.{Failed, NoMemory}

-- one of the discs is that of the volume with this number
abbrev pub HasDisc : {D J : Type 0} {d : disk.Ghosts D} {f : device_run.Ghosts J D} {g : node_run.Ghosts J} {h : run.Ghosts J Part} → List (DiscProcess D J d f g h) → ℕ → Type 0
HasDisc discs number = list_any (λ p. number_of p == number) discs ≡ true

-- each of the numbers has its disc
abbrev pub HaveDiscs : {D J : Type 0} {d : disk.Ghosts D} {f : device_run.Ghosts J D} {g : node_run.Ghosts J} {h : run.Ghosts J Part} → List (DiscProcess D J d f g h) → List ℕ → Type 0
HaveDiscs discs numbers = All (λ number. HasDisc discs number) numbers

-- what the refusal at a disc is to phase one
abbrev pub stopped_from : FlushRefused → Stopped
stopped_from (refused.Failed device) = Failed device
stopped_from refused.NoMemory = NoMemory

-- where a device has failed, it is the trail of a disc that the transaction has enlisted, and its seat has newly seen that it failed for it
abbrev pub IsStopped : Config → Txn → Txn → Stopped → Type 0
IsStopped config old new (Failed device) =
    (disc : ℕ) × Among old.discs disc × (device ≡ trail_of config disc) × HasNewlySeen (trail_part device) (OfTrail (trail.Failed (Attempt old.tx))) old.seat new.seat
IsStopped config old new NoMemory = Unit {0}
