-- A control point: what it makes of a volume and its trail, and why it is refused.
use Rattle.std.specs.Prelude.{◌≡◌, ◌⊎◌, ◌+◌, ◌-◌, ◌++◌, ◌<◌, ◌≤◌, ℕ, List, [], ◌∷◌, length, Option, Some, None, Result, Ok, Err}
use mathlib.Core.List.{IsPrefix}
use Rattle.chronicle.specs.Histories.{events_of}
use Rattle.chronicle.specs.Seats.{Sight, Knows, own_events}
use Rattle.disk_model.specs.declared.disk.Disk as disk
use Rattle.tmf_model.specs.declared.config.Config.{Config}
use Rattle.node_machine.specs.declared.event.By.{By}
use Rattle.node_machine.specs.declared.event.DiscEvent.TheVariants as did
use Rattle.node_machine.specs.declared.event.Event.{Event}
use Rattle.node_machine.specs.declared.event.Event.TheVariants.{OfDisc, OfTrail}
use Rattle.node_machine.specs.declared.event.TrailEvent.TheVariants as trail_did
use Rattle.node_machine.specs.Disc.{IsGreatestQuiet}
use Rattle.node_machine.specs.Node.{node}
use Rattle.node_machine.specs.Opening.{disc_part, trail_part}
use Rattle.node_machine.specs.Parts.{PartState}
use Rattle.node_machine.specs.Parts.Fact.{Durable}
use Rattle.node_machine.specs.Trail.{trail_of}
use Rattle.audit_writer.specs.declared.lock.FlushRefused.{FlushRefused}
use Rattle.audit_writer.specs.declared.lock.FlushRefused.TheVariants as stopped
use Rattle.disc_process.specs.Disc.{DiscView, HasReached}
use Rattle.disc_process.specs.Draw.{IsClean}
use Rattle.disc_process.specs.Later.{IsLaterDisc, IsLawful}
use Rattle.disc_process.specs.Low.{HasLowered, IsGreatestFloor}
use Rattle.audit_writer.specs.Writer.{Writer}
use Rattle.disc_lock.specs.Seats.{HasSeenMore}
use Rattle.control_point.specs.Purged.{WasPurged}
use Rattle.control_point.specs.declared.refused.ControlRefused.{ControlRefused}
use Rattle.control_point.specs.declared.refused.ControlRefused.TheVariants.{Spent, Failed, NoMemory}

-- the seat has seen the event of the part, behind all that it had seen of that part before
pub record HasSeenSince (part : ℕ) (e : Event) (old new : Sight Event) : Type 0 where
  pub more : List Event
  pub rest : List Event
  pub events : events_of part new.seen ≡ (events_of part old.seen ++ more) ++ e ∷ rest

-- a call of this device has failed for the caller, whose seat has seen that since: it is the disc's trail, or the volume
abbrev pub HasFailed : Config → ℕ → By → Sight Event → Sight Event → ℕ → Type 0
HasFailed config number by old new device =
    ((device ≡ trail_of config number) × HasSeenSince (trail_part (trail_of config number)) (OfTrail (trail_did.Failed by)) old new)
    ⊎ ((device ≡ 4 + number) × HasSeenSince (disc_part number) (OfDisc (did.Failed by)) old new)

-- why a call of a disc was refused
abbrev pub IsDiscRefusal : Config → ℕ → By → Sight Event → Sight Event → FlushRefused → Type 0
IsDiscRefusal config number by old new (stopped.Failed device) = HasFailed config number by old new device
IsDiscRefusal config number by old new stopped.NoMemory = Unit {0}

-- At a moment of a call in which the lock of the disc with this number was held, this was so of what the seat had seen, all of the disc's events among it.
pub record WasSo {D : Type 0} (kind : disk.Ghosts D) (opening : List PartState) (config : Config) (number : ℕ) (old new : Sight Event) (says : List (ℕ × Event) → Type 0) : Type 0 where
  pub disc : DiscView D
  pub lawful : IsLawful kind opening disc
  pub number_is : disc.part.number ≡ number
  pub config_is : disc.part.config ≡ config
  pub seen : List (ℕ × Event)
  pub behind : IsPrefix old.seen seen
  pub before : IsPrefix seen new.seen
  pub whole : events_of (disc_part number) seen ≡ own_events disc.seat
  pub so : says seen

-- the first part that is spent, the disc and then its trail: it has had as many events as the node allows
pub record IsSpent (config : Config) (number part : ℕ) (seen : List (ℕ × Event)) : Type 0 where
  pub first :
      HasReached config.steps (length (events_of (disc_part number) seen)) (part ≡ disc_part number)
      (HasReached config.steps (length (events_of (trail_part (trail_of config number)) seen)) (part ≡ trail_part (trail_of config number)) ⊥)

-- the disc has had as many events as the node allows
abbrev pub IsDiscSpent : Config → ℕ → List (ℕ × Event) → Type 0
IsDiscSpent config number seen = config.steps ≤ length (events_of (disc_part number) seen)

-- neither is
pub record IsFit (config : Config) (number : ℕ) (seen : List (ℕ × Event)) : Type 0 where
  pub disc_events : length (events_of (disc_part number) seen) < config.steps
  pub trail_events : length (events_of (trail_part (trail_of config number)) seen) < config.steps

-- All blocks of a disc whose lock is held are drawn, its audit has landed, and this is the greatest position below which nothing is unfinished.
pub record IsReady {D : Type 0} (opening : List PartState) (disc : DiscView D) (low : ℕ) : Type 0 where
  pub quiet : IsGreatestQuiet disc.part low
  pub clean : (f n : ℕ) → n < 256 → IsClean disc.blocks f n
  pub durable : Knows node opening disc.seat (Durable disc.part.number (low - 1))

-- while the disc's lock is held: it has had as many events as the node allows
pub record IsSpentHere {D : Type 0} (kind : disk.Ghosts D) (opening : List PartState) (disc : DiscView D) : Type 0 where
  pub lawful : IsLawful kind opening disc
  pub reached : disc.part.config.steps ≤ length (own_events disc.seat)

-- A move of the low position while the disc's lock is held: this was the greatest position below which nothing is unfinished, and it is the volume's low
-- position now.
pub record IsMove {D : Type 0} (kind : disk.Ghosts D) (opening : List PartState) (by : By) (low : ℕ) (first last : DiscView D) : Type 0 where
  pub before : DiscView D
  pub later : IsLaterDisc opening first before
  pub lawful : IsLawful kind opening before
  pub quiet : IsGreatestQuiet before.part low
  pub lowered : HasLowered by low before last

-- The same for a caller outside of the lock, whose seat has seen the two events of the move since: of the disc they are the last that it has seen. Behind the move this is the disc's greatest
-- floor: below it neither the low position nor a dump needs a record.
pub record HasMoved {D : Type 0} (kind : disk.Ghosts D) (opening : List PartState) (config : Config) (number : ℕ) (by : By) (low floor : ℕ) (old new : Sight Event) : Type 0 where
  pub before : DiscView D
  pub after : DiscView D
  pub lawful : IsLawful kind opening before
  pub after_lawful : IsLawful kind opening after
  pub number_is : before.part.number ≡ number
  pub config_is : before.part.config ≡ config
  pub met : IsPrefix old.seen before.seat.seen
  pub quiet : IsGreatestQuiet before.part low
  pub lowered : HasLowered by low before after
  pub floor_is : IsGreatestFloor after.part floor
  pub seen : IsPrefix after.seat.seen new.seen
  pub more : List Event
  pub events : events_of (disc_part number) new.seen ≡ (events_of (disc_part number) old.seen ++ more) ++ OfDisc (did.Low low by) ∷ OfDisc did.Lowered ∷ []

-- A control point that is whole: nothing was spent, and the low position has moved. Behind the move the trail was purged, by a writer that had been told the disc's floor. What the seat has seen
-- since the move it has seen in the purge.
pub record HasControlled {D : Type 0} (kind : disk.Ghosts D) (IsOne : Writer D → Type 0) (opening : List PartState) (config : Config) (number : ℕ) (by : By) (low : ℕ) (old new : Sight Event) : Type 0 where
  pub fit : WasSo kind opening config number old new (IsFit config number)
  pub between : Sight Event
  pub floor : ℕ
  pub moved : HasMoved kind opening config number by low floor old between
  pub behind : HasSeenMore opening between new
  pub purged : WasPurged kind IsOne (trail_of config number) number floor

-- why a control point is refused
abbrev pub IsControlRefusal : {D : Type 0} → disk.Ghosts D → List PartState → Config → ℕ → By → Sight Event → Sight Event → ControlRefused → Type 0
IsControlRefusal kind opening config number by old new (Spent part) = WasSo kind opening config number old new (IsSpent config number part)
IsControlRefusal kind opening config number by old new (Failed device) = WasSo kind opening config number old new (IsFit config number) × HasFailed config number by old new device
IsControlRefusal kind opening config number by old new NoMemory = WasSo kind opening config number old new (IsFit config number)

-- the answer of a move, with the floor behind it
abbrev pub with_floor : ℕ → Result (Option ℕ) FlushRefused → Result (Option (ℕ × ℕ)) FlushRefused
with_floor floor (Ok (Some low)) = Ok (Some (low, floor))
with_floor floor (Ok None) = Ok None
with_floor floor (Err refused) = Err refused

-- what the refusal of a disc's call is to a control point
abbrev pub refused_from : FlushRefused → ControlRefused
refused_from (stopped.Failed device) = Failed device
refused_from stopped.NoMemory = NoMemory
