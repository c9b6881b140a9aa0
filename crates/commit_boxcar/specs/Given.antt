-- A car of requests that the caller gives.
use Rattle.std.specs.Prelude.{◌≡◌, ◌⊎◌, ℕ, ◌<◌, ◌≤◌, ◌+◌, List, [], ◌∷◌, ◌++◌, length}
use Rattle.chronicle.specs.Seats.{Knows}
use Rattle.trail_files.specs.declared.monitor_record.MonitorRecord.{MonitorRecord}
use Rattle.node_machine.specs.declared.event.By.{By}
use Rattle.node_machine.specs.declared.event.MonitorEvent.{MonitorEvent}
use Rattle.node_machine.specs.declared.event.MonitorEvent.TheVariants.{Offer, Land, Failed}
use Rattle.node_machine.specs.Monitor.{recorded, AreLater}
use Rattle.node_machine.specs.Node.{node}
use Rattle.node_machine.specs.Parts.{PartState}
use Rattle.node_machine.specs.Same.{Among}
use Rattle.commit_boxcar.specs.Line.{AreTaken, IsAsked}
use Rattle.commit_boxcar.specs.Monitor.{Monitor, offered_batch}
use Rattle.commit_boxcar.specs.Seat.{MonitorSight, HasHad}

-- the records of this run that have landed, and those that are being written
abbrev pub written : {D : Type 0} → Monitor D → List MonitorRecord
written w = recorded w.seat.part.events ++ offered_batch w

-- the seat has seen what each of these requests asks
abbrev pub AreAsked : List PartState → ℕ → MonitorSight → List MonitorRecord → Type 0
AreAsked opening epoch seat requests = (x : MonitorRecord) → Among requests x → IsAsked (Knows node opening seat.sight) epoch x

-- They are 1 to 64 requests, each later than all that were recorded or offered, and all before it in the list, of its worker; and the monitor's
-- seat has seen what each asks.
pub record IsNextCar {D : Type 0} (opening : List PartState) (epoch : ℕ) (v : Monitor D) (requests : List MonitorRecord) : Type 0 where
  pub some : 0 < length requests
  pub few : length requests ≤ 64
  pub later : AreLater (written v) requests
  pub asked : AreAsked opening epoch v.seat requests

-- the event by which what is being written lands; none where nothing is
abbrev pub landing : List MonitorRecord → List MonitorEvent
landing [] = []
landing (x ∷ xs) = Land ∷ []

-- What was being written has landed, and then one batch that has just these records, the first at this place. Of the requests in the room, those
-- are left that are later than all that is written of their worker.
pub record HasCarOf {D : Type 0} (requests : List MonitorRecord) (v w : Monitor D) (first : ℕ) : Type 0 where
  pub had : HasHad (landing (offered_batch v) ++ Offer requests ∷ Land ∷ []) v.seat w.seat
  pub first_is : first ≡ v.seat.part.places + length (written v) + 1
  pub room : AreTaken (written v ++ requests) v.room w.room

-- behind these events of the call the requests are not written, and the room is as it was
pub record IsNotWritten {D : Type 0} (before : List MonitorEvent) (v w : Monitor D) : Type 0 where
  pub events : (before ≡ []) ⊎ (before ≡ landing (offered_batch v))
  pub room : w.room ≡ v.room

-- behind these events of the call the requests are offered, as one batch
pub record IsWritten {D : Type 0} (requests : List MonitorRecord) (before : List MonitorEvent) (v w : Monitor D) : Type 0 where
  pub events : before ≡ landing (offered_batch v) ++ Offer requests ∷ []
  pub room : AreTaken (written v ++ requests) v.room w.room

-- A call of the device has failed, which is the monitor's last event. The requests are offered, or they are not written.
pub record IsCarRefused {D : Type 0} (by : By) (requests : List MonitorRecord) (v w : Monitor D) : Type 0 where
  pub before : List MonitorEvent
  pub had : HasHad (before ++ Failed by ∷ []) v.seat w.seat
  pub requests_are : IsNotWritten before v w ⊎ IsWritten requests before v w
