-- What has happened at the monitor trail, and what may happen next.
use Rattle.std.specs.Prelude.{◌≡◌, ◌≢◌, ℕ, ◌+◌, ◌<◌, ◌≤◌, List, [], ◌∷◌, ◌++◌, length, Option, Some, None, slice_get}
use Rattle.tmf_model.specs.declared.script.Close.TheVariants.{Commit as Committing, Abort as Aborting}
use Rattle.tmf_model.specs.declared.transid.Transid.{Transid}
use Rattle.trail_files.specs.declared.monitor_record.MonitorRecord.{MonitorRecord}
use Rattle.trail_files.specs.declared.monitor_record.MonitorRecord.TheVariants.{Start, Commit, Abort}
use Rattle.node_machine.specs.declared.event.MonitorEvent.{MonitorEvent}
use Rattle.node_machine.specs.declared.event.MonitorEvent.TheVariants.{Offer, Land, Failed}
use Rattle.node_machine.specs.Parts.{MonitorPart, Fact}
use Rattle.node_machine.specs.Parts.Fact.{Decided, Closed, Durable, Recorded}
use Rattle.node_machine.specs.Same.{Among, IsBefore}

-- the records of the car that is being written; none where there is no such car
abbrev pub offered_car : List MonitorEvent → List MonitorRecord
offered_car [] = []
offered_car (Offer records ∷ events) = records
offered_car (Land ∷ events) = []
offered_car (_ ∷ events) = offered_car events

-- the records that have landed in this run, in order
abbrev pub recorded : List MonitorEvent → List MonitorRecord
recorded [] = []
recorded (Land ∷ events) = recorded events ++ offered_car events
recorded (_ ∷ events) = recorded events

-- the attempt that the record ends
abbrev pub ended_by : MonitorRecord → Option Transid
ended_by (Start epoch) = None
ended_by (Commit t) = Some t
ended_by (Abort t) = Some t

-- the record ends an attempt of this run that is later than what the other one ends of its worker
abbrev pub IsLater : MonitorRecord → MonitorRecord → Type 0
IsLater earlier later = (u t : Transid) → ended_by earlier ≡ Some u → ended_by later ≡ Some t → u.worker ≡ t.worker → IsBefore u t

-- the record ends an attempt of this run
abbrev pub IsRequest : ℕ → MonitorRecord → Type 0
IsRequest epoch (Start other) = ⊥
IsRequest epoch (Commit t) = t.epoch ≡ epoch
IsRequest epoch (Abort t) = t.epoch ≡ epoch

-- each is later than all before it
abbrev pub AreLater : List MonitorRecord → List MonitorRecord → Type 0
AreLater before [] = Unit {0}
AreLater before (x ∷ xs) = ((y : MonitorRecord) → Among before y → IsLater y x) × AreLater (x ∷ before) xs

-- no car is being written, and this one ends attempts of this run, each later than all others of its worker
pub record MayOfferCar (s : MonitorPart) (records : List MonitorRecord) : Type 0 where
  pub idle : offered_car s.events ≡ []
  pub some : 0 < length records
  pub few : length records ≤ 64
  pub requests : (x : MonitorRecord) → Among records x → IsRequest s.epoch x
  pub later : AreLater (recorded s.events) records

-- which event the monitor may have
abbrev pub MonitorMay : MonitorPart → MonitorEvent → Type 0
MonitorMay s (Offer records) = MayOfferCar s records
MonitorMay s Land = offered_car s.events ≢ []
MonitorMay s (Failed by) = Unit {0}

-- at the disc it has closed, and all that it has changed there has landed
abbrev pub IsFlushed : (Fact → Type 0) → Transid → ℕ → Type 0
IsFlushed true_ t disc = (position : ℕ) × true_ (Closed t disc position) × true_ (Durable disc position)

-- what a record asks: its attempt is decided so, and for a commit it is flushed at each disc that it has enlisted
abbrev pub IsBacked : (Fact → Type 0) → MonitorRecord → Type 0
IsBacked true_ (Start epoch) = ⊥
IsBacked true_ (Commit t) = (discs : List ℕ) × true_ (Decided t Committing discs) × ((disc : ℕ) → Among discs disc → IsFlushed true_ t disc)
IsBacked true_ (Abort t) = (discs : List ℕ) × true_ (Decided t Aborting discs)

-- what an event of the monitor asks of the true facts
abbrev pub MonitorAsks : (Fact → Type 0) → MonitorPart → MonitorEvent → Type 0
MonitorAsks true_ s (Offer records) = (x : MonitorRecord) → Among records x → IsBacked true_ x
MonitorAsks true_ s _ = Unit {0}

-- the record stands at this place of the trail
pub record StandsAt (s : MonitorPart) (item : MonitorRecord) (place : ℕ) : Type 0 where
  pub index : ℕ
  pub place_is : place ≡ s.places + index + 1
  pub at : slice_get (recorded s.events) index ≡ Some item

-- which facts the monitor makes true
abbrev pub MonitorMakes : MonitorPart → Fact → Type 0
MonitorMakes s (Recorded item place) = StandsAt s item place
MonitorMakes s _ = ⊥
