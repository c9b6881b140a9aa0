-- What the calls that make cars make of the monitor.
use Rattle.std.specs.Prelude.{◌≡◌, ◌≢◌, ◌⊎◌, ℕ, ◌<◌, List, [], ◌∷◌, ◌++◌, length, Option, Some, None}
use Rattle.trail_files.specs.declared.monitor_record.MonitorRecord.{MonitorRecord}
use Rattle.node_machine.specs.declared.event.By.{By}
use Rattle.node_machine.specs.declared.event.MonitorEvent.{MonitorEvent}
use Rattle.node_machine.specs.declared.event.MonitorEvent.TheVariants.{Offer, Land, Failed}
use Rattle.node_machine.specs.Monitor.{StandsAt}
use Rattle.commit_boxcar.specs.Line.{AreTaken, IsNext, MayBeLast}
use Rattle.commit_boxcar.specs.Monitor.{Monitor, line, offered_batch}
use Rattle.commit_boxcar.specs.Requests.{ArePopped, HasFoundEmpty, that_heard}
use Rattle.commit_boxcar.specs.Seat.{HasHad}

-- the car that was being written has landed, and no other was made
pub record HasGated {D : Type 0} (v w : Monitor D) (count : ℕ) : Type 0 where
  pub some : offered_batch v ≢ []
  pub count_is : count ≡ length (offered_batch v)
  pub had : HasHad (Land ∷ []) v.seat w.seat
  pub room : w.room ≡ v.room
  pub end : w.end ≡ v.end

-- the events of a car: one batch that has just these records
abbrev pub car_events : List MonitorRecord → List MonitorEvent
car_events [] = []
car_events (x ∷ xs) = Offer (x ∷ xs) ∷ Land ∷ []

-- Requests were popped, oldest first, and those that are later than all before them of their worker were taken behind the ones in the room.
pub record HasFilled {D : Type 0} (v w : Monitor D) : Type 0 where
  pub had : HasHad [] v.seat w.seat
  pub trail : w.trail ≡ v.trail
  pub front : List MonitorRecord
  pub popped : ArePopped front v.end w.end
  pub taken : List MonitorRecord
  pub are_taken : AreTaken (line v) front taken
  pub room : w.room ≡ v.room ++ taken

-- The request was taken behind the room, where it is later than all before it of its worker; or else it was passed over.
pub record HasTakenOne {D : Type 0} (v w : Monitor D) (request : MonitorRecord) : Type 0 where
  pub had : HasHad [] v.seat w.seat
  pub trail : w.trail ≡ v.trail
  pub end : w.end ≡ v.end
  pub taken : (IsNext (line v) request × (w.room ≡ v.room ++ request ∷ [])) ⊎ ((IsNext (line v) request → ⊥) × (w.room ≡ v.room))

-- what was taken stays in its order, and popped requests may be taken behind it
pub record HasLine {D : Type 0} (v w : Monitor D) : Type 0 where
  pub front : List MonitorRecord
  pub popped : ArePopped front v.end w.end
  pub taken : List MonitorRecord
  pub are_taken : AreTaken (line v) front taken
  pub line_is : line w ≡ line v ++ taken

-- the same, and behind those at most this one was taken
pub record HasLineFor {D : Type 0} (x : MonitorRecord) (v w : Monitor D) : Type 0 where
  pub front : List MonitorRecord
  pub popped : ArePopped front v.end w.end
  pub taken : List MonitorRecord
  pub are_taken : AreTaken (line v) front taken
  pub own : List MonitorRecord
  pub own_is : (own ≡ []) ⊎ (own ≡ x ∷ [])
  pub line_is : line w ≡ (line v ++ taken) ++ own

-- the same monitor, whose end was told that this request was pushed, where there is one
abbrev pub when_told : {D : Type 0} → Option MonitorRecord → Monitor D → Monitor D
when_told None v = v
when_told (Some x) v = record v { end = that_heard x v.end }

-- One car was made of the requests in the room and, behind them, of those that were popped and not passed over; nothing where there are none.
-- Where the car is not full, a pop found the queue empty.
pub record HasMade {D : Type 0} (v w : Monitor D) (count : ℕ) : Type 0 where
  pub none : offered_batch v ≡ []
  pub front : List MonitorRecord
  pub popped : ArePopped front v.end w.end
  pub taken : List MonitorRecord
  pub are_taken : AreTaken (line v) front taken
  pub count_is : count ≡ length (v.room ++ taken)
  pub had : HasHad (car_events (v.room ++ taken)) v.seat w.seat
  pub room : w.room ≡ []
  pub all : count < 64 → HasFoundEmpty v.end w.end

-- the car that is being written has landed; or else one was made
abbrev pub HasCar : {D : Type 0} → Monitor D → Monitor D → ℕ → Type 0
HasCar v w count = HasGated v w count ⊎ HasMade v w count

-- A call of the device has failed, which is the monitor's last event. Nothing has landed in this call; its car may be offered, with all that was
-- in the room.
pub record IsHeldUp {D : Type 0} (by : By) (v w : Monitor D) : Type 0 where
  pub before : List MonitorEvent
  pub offer_alone : (before ≡ []) ⊎ ((records : List MonitorRecord) × (before ≡ Offer records ∷ []) × (w.room ≡ []))
  pub had : HasHad (before ++ Failed by ∷ []) v.seat w.seat

-- a call of the device has failed, which is the monitor's last event
abbrev pub HasStopped : {D : Type 0} → By → Monitor D → Monitor D → Type 0
HasStopped by v w = (es : List MonitorEvent) × HasHad (es ++ Failed by ∷ []) v.seat w.seat

-- the monitor has had some events
abbrev pub HasDriven : {D : Type 0} → Monitor D → Monitor D → Type 0
HasDriven v w = (es : List MonitorEvent) × HasHad es v.seat w.seat

-- all that was taken has landed
pub record IsIdle {D : Type 0} (v : Monitor D) : Type 0 where
  pub none : offered_batch v ≡ []
  pub empty : v.room ≡ []

-- The place of the request, where it has landed. Where none is answered though all that was taken has landed, a request that may be the last
-- of its worker is later than each that was recorded.
abbrev pub IsPlaceOf : {D : Type 0} → Monitor D → MonitorRecord → Option ℕ → Type 0
IsPlaceOf v x (Some place) = StandsAt v.seat.part x place
IsPlaceOf v x None = IsIdle v → MayBeLast (line v) x → IsNext (line v) x
