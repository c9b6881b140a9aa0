-- The seat of the monitor, with the state of that part.
use Rattle.std.specs.Prelude.{◌≡◌, List, [], ◌∷◌, ◌++◌, Option, Some, None}
use mathlib.Core.List.{IsPrefix}
use Rattle.chronicle.specs.Seats.{Sight, HasGrown, HasLearned, Knows, own_events, part_state}
use Rattle.node_machine.specs.declared.event.Event.{Event}
use Rattle.node_machine.specs.declared.event.Event.TheVariants.{OfMonitor}
use Rattle.node_machine.specs.declared.event.MonitorEvent.{MonitorEvent}
use Rattle.node_machine.specs.Parts.{MonitorPart, PartState, Fact}
use Rattle.node_machine.specs.Parts.PartState.{Worker, Disc, Trail, Monitor, Dump, Idle}
use Rattle.node_machine.specs.Opening.{Found, opening_parts, monitor_part}
use Rattle.node_machine.specs.Monitor.{MonitorMay, MonitorAsks}
use Rattle.node_machine.specs.Node.{node}

-- the state of the monitor, and what its seat has seen
pub record MonitorSight : Type 0 where
  pub part : MonitorPart
  pub sight : Sight Event

-- stands where a part is not the monitor
abbrev pub no_monitor : MonitorPart
no_monitor = record { epoch = 0; places = 0; events = [] }

-- the state of the monitor
abbrev pub monitor_state : PartState → MonitorPart
monitor_state (Monitor s) = s
monitor_state (Worker s) = no_monitor
monitor_state (Disc s) = no_monitor
monitor_state (Trail s) = no_monitor
monitor_state (Dump s) = no_monitor
monitor_state Idle = no_monitor

-- the state of the monitor, where there is one
abbrev pub monitor_in : Option PartState → MonitorPart
monitor_in None = no_monitor
monitor_in (Some s) = monitor_state s

-- the part with one more event
abbrev pub monitor_with_event : MonitorPart → MonitorEvent → MonitorPart
monitor_with_event s e = record s { events = e ∷ s.events }

-- the part with more events, the first of them first
abbrev pub monitor_after : MonitorPart → List MonitorEvent → MonitorPart
monitor_after s [] = s
monitor_after s (e ∷ es) = monitor_after (monitor_with_event s e) es

-- events of the monitor, as a history has them
abbrev pub of_monitor : List MonitorEvent → List Event
of_monitor [] = []
of_monitor (e ∷ es) = OfMonitor e ∷ of_monitor es

-- the monitor has had these events, the first of them first, and its seat has lost nothing of what it had seen
pub record HasHad (es : List MonitorEvent) (v w : MonitorSight) : Type 0 where
  pub part : w.part ≡ monitor_after v.part es
  pub mine : own_events w.sight ≡ own_events v.sight ++ of_monitor es
  pub begins : IsPrefix v.sight.seen w.sight.seen

module _ (opening : List PartState) where
  -- what a seat has seen, with the state of its part
  abbrev pub sight_of : Sight Event → MonitorSight
  sight_of v = record { part = monitor_in (part_state node opening v); sight = v }

  -- the event may happen at the monitor, and the seat knows what it asks
  abbrev pub MayStep : MonitorSight → MonitorEvent → Type 0
  MayStep v e = MonitorMay v.part e × MonitorAsks (Knows node opening v.sight) v.part e

  -- The run opened with what it found, and the seat is the monitor's, which is in this state.
  pub record IsMonitorAt (found : Found) (v : MonitorSight) : Type 0 where
    pub opens : opening ≡ opening_parts found
    pub seat : v.sight.part ≡ Some monitor_part
    pub at : part_state node opening v.sight ≡ Some (Monitor v.part)
    pub epoch : v.part.epoch ≡ found.epoch
    pub places : v.part.places ≡ found.places

  -- the seat has seen more: the monitor has had these events, and what the seat knew it knows
  pub record HasStepped (found : Found) (es : List MonitorEvent) (v w : MonitorSight) : Type 0 where
    pub is : IsMonitorAt found w
    pub had : HasHad es v w
    pub knows : (f : Fact) → Knows node opening v.sight f → Knows node opening w.sight f

  -- the monitor's seat has learned what another one knew
  pub record HasHeard (found : Found) (v w : MonitorSight) (other : Sight Event) : Type 0 where
    pub stepped : HasStepped found [] v w
    pub told : (f : Fact) → Knows node opening other f → Knows node opening w.sight f

  -- the monitor's seat and a caller's have told each other all
  pub record HasMet (found : Found) (v w : MonitorSight) (caller met : Sight Event) : Type 0 where
    pub heard : HasHeard found v w caller
    pub same : w.sight.seen ≡ met.seen
    pub grown : HasGrown caller met
    pub learned : HasLearned node opening caller met
