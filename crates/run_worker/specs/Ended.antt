-- How an attempt has ended: it is committed, in doubt, backed out, or it hangs.
use Rattle.std.specs.Prelude.{◌≡◌, ◌⊎◌, ℕ, List, [], ◌∷◌, Option}
use Rattle.chronicle.specs.Seats.{HasNewlySeen, Knows, Sight}
use Rattle.disk_model.specs.declared.disk.Disk as disk
use Rattle.tmf_model.specs.declared.config.Config.{Config}
use Rattle.trail_files.specs.declared.monitor_record.MonitorRecord.TheVariants.{Abort, Commit}
use Rattle.node_machine.specs.declared.event.By.TheVariants.{Attempt}
use Rattle.node_machine.specs.declared.event.DiscEvent.TheVariants.{Release}
use Rattle.node_machine.specs.declared.event.Event.{Event}
use Rattle.node_machine.specs.declared.event.Event.TheVariants.{OfDisc, OfMonitor, OfWorker}
use Rattle.node_machine.specs.declared.event.MonitorEvent.TheVariants as monitor
use Rattle.node_machine.specs.declared.event.WorkerEvent.TheVariants.{End, Finish, Quit}
use Rattle.node_machine.specs.Node.{node}
use Rattle.node_machine.specs.Opening.{disc_part, monitor_part}
use Rattle.node_machine.specs.Parts.{PartState}
use Rattle.node_machine.specs.Parts.Fact.{Recorded}
use Rattle.node_machine.specs.Same.{Among}
use Rattle.txn_states.specs.Txn.{HasAdvanced, HasStepped, Txn}
use Rattle.phase_one.specs.Stopped.{IsStopped}
use Rattle.phase_one.specs.declared.phase.Stopped.{Stopped}
use Rattle.phase_one.specs.declared.phase.Stopped.TheVariants as stopped
use Rattle.backout.specs.Backed.{IsHanging}
use Rattle.backout.specs.declared.hanging.Hanging.{Hanging as BackoutHanging}
use Rattle.backout.specs.declared.hanging.Hanging.TheVariants as hangs
use Rattle.run_outcomes.specs.declared.outcome.Hang.{Hang}
use Rattle.run_outcomes.specs.declared.outcome.Hang.TheVariants as hang
use Rattle.run_outcomes.specs.declared.outcome.Told.{Told}
use Rattle.run_outcomes.specs.declared.outcome.Told.TheVariants as told

-- its seat has seen its release at each disc that it had enlisted
abbrev pub HasLeftAll : Txn → Sight Event → Type 0
HasLeftAll old new = (volume : ℕ) → Among old.discs volume → Among new.seen (disc_part volume, OfDisc (Release old.tx))

-- what a hanging backout is to an outcome
abbrev pub hang_of : BackoutHanging → Hang
hang_of (hangs.Failed device) = hang.Device device
hang_of (hangs.Damaged device damage) = hang.Damaged device damage
hang_of hangs.NoMemory = hang.Memory

-- its abort stands in the monitor trail, and it has left each of its discs
pub record IsBackedOut (opening : List PartState) (old : Txn) (new : Sight Event) : Type 0 where
  pub place : ℕ
  pub recorded : Knows node opening new (Recorded (Abort old.tx) place)
  pub left : HasLeftAll old new

-- it hangs, which is told with its cause
pub record IsHungUp {D : Type 0} (kind : disk.Ghosts D) (opening : List PartState) (config : Config) (devices : ℕ → Option D) (old : Txn) (new : Sight Event) (tells : Told) : Type 0 where
  pub hanging : BackoutHanging
  pub tells_is : tells ≡ told.Hanging (hang_of hanging)
  pub cause : IsHanging kind opening config devices old new hanging

-- An attempt that is to be backed out, for what is to be told, was, and that is told; or it hangs. Its worker has had no event.
pub record HasGivenUp {D : Type 0} (kind : disk.Ghosts D) (opening : List PartState) (config : Config) (devices : ℕ → Option D) (old : Txn) (why : Told) (new : Sight Event) (tells : Told) : Type 0 where
  pub advanced : HasAdvanced opening old.seat [] new
  pub how : ((tells ≡ why) × IsBackedOut opening old new) ⊎ IsHungUp kind opening config devices old new tells

-- what is to be told where phase one was stopped
abbrev pub told_by_stop : Stopped → Told
told_by_stop (stopped.Failed device) = told.Failed device
told_by_stop stopped.NoMemory = told.Memory

-- Its commit stands at this place of the monitor trail, and it has left each of its discs. Its worker has had these events more.
pub record IsCommitted (opening : List PartState) (old : Txn) (own : List Event) (new : Sight Event) (place : ℕ) : Type 0 where
  pub advanced : HasAdvanced opening old.seat own new
  pub recorded : Knows node opening new (Recorded (Commit old.tx) place)
  pub left : HasLeftAll old new

-- Its commit was decided, and the monitor's device has newly failed for it. Its worker has had these events more.
pub record IsInDoubt (opening : List PartState) (old : Txn) (own : List Event) (new : Sight Event) : Type 0 where
  pub advanced : HasAdvanced opening old.seat own new
  pub failed : HasNewlySeen monitor_part (OfMonitor (monitor.Failed (Attempt old.tx))) old.seat new

-- it is committed, which is told with these reads; or it is in doubt, which is told with the monitor's device
abbrev pub IsSettled : List PartState → Txn → List Event → List (ℕ × Option (List ℕ)) → Sight Event → Told → Type 0
IsSettled opening old own reads new tells =
    ((place : ℕ) × (tells ≡ told.Committed place reads) × IsCommitted opening old own new place)
    ⊎ ((tells ≡ told.InDoubt 0) × IsInDoubt opening old own new)

-- Its worker asked for no more, its audit did not land at each disc, for this reason, and it was given up for that.
pub record IsStoppedShort {D : Type 0} (kind : disk.Ghosts D) (opening : List PartState) (config : Config) (devices : ℕ → Option D) (old : Txn) (new : Sight Event) (tells : Told) : Type 0 where
  pub ending : Txn
  pub quitting : Txn
  pub stop : Stopped
  pub finished : HasStepped opening old (OfWorker (Finish old.tx) ∷ []) ending
  pub cause : IsStopped config old ending stop
  pub quit : HasStepped opening ending (OfWorker (Quit old.tx) ∷ []) quitting
  pub given_up : HasGivenUp kind opening config devices quitting (told_by_stop stop) new tells

-- what an attempt comes to that is to be committed with these reads
abbrev pub IsClosed : {D : Type 0} → disk.Ghosts D → List PartState → Config → (ℕ → Option D) → Txn → List (ℕ × Option (List ℕ)) → Sight Event → Told → Type 0
IsClosed kind opening config devices old reads new tells =
    IsSettled opening old (OfWorker (Finish old.tx) ∷ OfWorker (End old.tx) ∷ []) reads new tells ⊎ IsStoppedShort kind opening config devices old new tells
