-- What it says that a transaction was backed out, and why one hangs.
use Rattle.std.specs.Prelude.{◌≡◌, ◌⊎◌, ◌+◌, ℕ, true, List, [], Option, None, Some, slice_get}
use mathlib.Core.List.{IsPrefix}
use Rattle.chronicle.specs.Histories.{states_after}
use Rattle.chronicle.specs.Seats.{HasNewlySeen, Knows, Sight}
use Rattle.disk_model.specs.declared.disk.Disk as disk
use Rattle.tmf_model.specs.declared.config.Config.{Config}
use Rattle.tmf_model.specs.declared.transid.Transid.{Transid}
use Rattle.trail_files.specs.declared.monitor_record.MonitorRecord.TheVariants.{Abort}
use Rattle.node_machine.specs.declared.event.By.TheVariants.{Attempt}
use Rattle.node_machine.specs.declared.event.DiscEvent.{DiscEvent}
use Rattle.node_machine.specs.declared.event.DiscEvent.TheVariants.{Release}
use Rattle.node_machine.specs.declared.event.DiscEvent.TheVariants as did
use Rattle.node_machine.specs.declared.event.Event.{Event}
use Rattle.node_machine.specs.declared.event.Event.TheVariants.{OfDisc, OfMonitor, OfTrail}
use Rattle.node_machine.specs.declared.event.MonitorEvent.TheVariants as monitor
use Rattle.node_machine.specs.declared.event.TrailEvent.TheVariants as trail
use Rattle.node_machine.specs.Made.{changes_left}
use Rattle.node_machine.specs.Node.{node}
use Rattle.node_machine.specs.Opening.{disc_part, monitor_part, trail_part}
use Rattle.node_machine.specs.Parts.{DiscPart, PartState}
use Rattle.node_machine.specs.Parts.Fact.{Recorded}
use Rattle.node_machine.specs.Parts.PartState.{Disc}
use Rattle.node_machine.specs.Same.{Among}
use Rattle.node_machine.specs.Trail.{trail_of}
use Rattle.txn_states.specs.Txn.{EndedView, HasReleasedAll, HasStepped, Txn}
use Rattle.disc_process.specs.declared.undo_refused.UndoRefused.{UndoRefused}
use Rattle.disc_process.specs.declared.undo_refused.UndoRefused.TheVariants as stuck
use Rattle.disc_process.specs.Coming.{is_coming_of}
use Rattle.disc_process.specs.Device.{device_of}
use Rattle.disc_process.specs.Disc.{DiscView}
use Rattle.disc_process.specs.Later.{IsLaterDisc, IsLawful}
use Rattle.disc_process.specs.Undo.{IsNotUndone}
use Rattle.backout.specs.declared.hanging.Hanging.{Hanging}
use Rattle.backout.specs.declared.hanging.Hanging.TheVariants.{Damaged, Failed, NoMemory}

-- at a moment from the first one on, which has been seen at the last, nothing of the transaction was left to undo at the disc with this number
pub record WasUndone (opening : List PartState) (t : Transid) (first last : List (ℕ × Event)) (number : ℕ) : Type 0 where
  pub seen : List (ℕ × Event)
  pub behind : IsPrefix first seen
  pub within : IsPrefix seen last
  pub part : DiscPart
  pub at : slice_get (states_after node opening seen) (disc_part number) ≡ Some (Disc part)
  pub none : changes_left part.events t ≡ []

-- nothing of it was left at each disc that it has enlisted, since the call began and as the seat has seen
abbrev pub AreUndone : List PartState → Txn → Sight Event → Type 0
AreUndone opening old seat = (number : ℕ) → Among old.discs number → WasUndone opening old.tx old.seat.seen seat.seen number

-- where its seat had seen an event by which it came to the disc, the seat has seen its release there
abbrev pub HasLeft : Txn → Sight Event → ℕ → Type 0
HasLeft old seat number = (e : DiscEvent) → is_coming_of e old.tx ≡ true → Among old.seat.seen (disc_part number, OfDisc e) → Among seat.seen (disc_part number, OfDisc (Release old.tx))

-- the same at each disc that it has enlisted
abbrev pub HaveLeft : Txn → Sight Event → Type 0
HaveLeft old seat = (number : ℕ) → Among old.discs number → HasLeft old seat number

-- its seat has seen, of each disc that it has enlisted, an event by which it came there
abbrev pub HasCome : Txn → Type 0
HasCome old = (number : ℕ) → Among old.discs number → (e : DiscEvent) × (is_coming_of e old.tx ≡ true) × Among old.seat.seen (disc_part number, OfDisc e)

-- its changes are undone, and its abort stands in the monitor trail
pub record HasRecorded (opening : List PartState) (old : Txn) (e : EndedView) : Type 0 where
  pub stepped : HasStepped opening old [] e.txn
  pub none : e.place ≡ None
  pub undone : AreUndone opening old e.txn.seat
  pub recorded : (place : ℕ) × Knows node opening e.txn.seat (Recorded (Abort old.tx) place)

-- It is backed out: it has no receipt, its changes are undone, its abort stands in the monitor trail, and it has left its discs. Where it had come to each, its
-- seat has seen its release at each.
pub record HasBackedOut (opening : List PartState) (old : Txn) (e : EndedView) : Type 0 where
  pub none : e.place ≡ None
  pub undone : AreUndone opening old e.txn.seat
  pub recorded : (place : ℕ) × Knows node opening e.txn.seat (Recorded (Abort old.tx) place)
  pub left : HaveLeft old e.txn.seat
  pub released : HasCome old → HasReleasedAll e.txn

-- The undo of a change was refused for this reason: it is the newest that was left of the transaction at the disc, at a later moment than the first.
pub record IsStuckBehind {D : Type 0} (kind : disk.Ghosts D) (opening : List PartState) (first last : DiscView D) (t : Transid) (refusal : UndoRefused) : Type 0 where
  pub before : DiscView D
  pub later : IsLaterDisc opening first before
  pub refused : IsNotUndone kind before last t refusal

-- where a device has failed, it is the disc's trail or the volume, and the seat has seen that it failed for the attempt, and had not seen that before
abbrev pub IsFailureSeen : Config → ℕ → Transid → Sight Event → Sight Event → UndoRefused → Type 0
IsFailureSeen config number t old seat (stuck.Failed device) =
    ((device ≡ trail_of config number) × HasNewlySeen (trail_part (trail_of config number)) (OfTrail (trail.Failed (Attempt t))) old seat)
    ⊎ ((device ≡ 4 + number) × HasNewlySeen (disc_part number) (OfDisc (did.Failed (Attempt t))) old seat)
IsFailureSeen config number t old seat _ = Unit {0}

-- The same at the disc with this number, in one hold of its lock, which began when the disc's seat had seen all that this one had. This seat has then seen
-- all that the disc's has. The device that was handed in for the disc is the run's for its volume.
pub record IsStuckAt {D : Type 0} (kind : disk.Ghosts D) (opening : List PartState) (config : Config) (devices : ℕ → Option D) (t : Transid) (old seat : Sight Event) (number : ℕ) (refusal : UndoRefused) : Type 0 where
  pub first : DiscView D
  pub last : DiscView D
  pub number_is : first.part.number ≡ number
  pub config_is : first.part.config ≡ config
  pub first_lawful : IsLawful kind opening first
  pub last_lawful : IsLawful kind opening last
  pub later : IsLaterDisc opening first last
  pub handed_in : last.handed_in ≡ devices (device_of number)
  pub met : IsPrefix old.seen first.seat.seen
  pub stuck : IsStuckBehind kind opening first last t refusal
  pub seen : seat.seen ≡ last.seat.seen
  pub failed : IsFailureSeen config number t old seat refusal

-- the same at one of the discs that the transaction has enlisted
abbrev pub IsStuckSomewhere : {D : Type 0} → disk.Ghosts D → List PartState → Config → (ℕ → Option D) → Txn → Sight Event → UndoRefused → Type 0
IsStuckSomewhere kind opening config devices old seat refusal = (number : ℕ) × Among old.discs number × IsStuckAt kind opening config devices old.tx old.seat seat number refusal

-- what the refusal at a disc is to a backout
abbrev pub hanging_from : UndoRefused → Hanging
hanging_from (stuck.Failed device) = Failed device
hanging_from (stuck.Damaged device damage) = Damaged device damage
hanging_from stuck.NoMemory = NoMemory

-- a change at one of its discs could not be undone
abbrev pub HangsAtDisc : {D : Type 0} → disk.Ghosts D → List PartState → Config → (ℕ → Option D) → Txn → Sight Event → Hanging → Type 0
HangsAtDisc kind opening config devices old seat hanging = (refusal : UndoRefused) × (hanging ≡ hanging_from refusal) × IsStuckSomewhere kind opening config devices old seat refusal

-- all is undone, and the monitor's device has failed for this attempt, which its seat has seen and had not seen before
pub record HangsAtMonitor (opening : List PartState) (old : Txn) (seat : Sight Event) (hanging : Hanging) : Type 0 where
  pub named : hanging ≡ Failed 0
  pub undone : AreUndone opening old seat
  pub failed : HasNewlySeen monitor_part (OfMonitor (monitor.Failed (Attempt old.tx))) old.seat seat

-- why it hangs
abbrev pub IsHanging : {D : Type 0} → disk.Ghosts D → List PartState → Config → (ℕ → Option D) → Txn → Sight Event → Hanging → Type 0
IsHanging kind opening config devices old seat hanging = HangsAtDisc kind opening config devices old seat hanging ⊎ HangsAtMonitor opening old seat hanging
