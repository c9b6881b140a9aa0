-- The seat of a trail's part, with the state of that part.
use Rattle.std.specs.Prelude.{◌≡◌, List, [], ◌∷◌, ◌++◌, Option, Some, None}
use mathlib.Core.List.{IsPrefix}
use Rattle.chronicle.specs.Seats.{Sight, HasGrown, HasLearned, Knows, own_events, part_state}
use Rattle.node_machine.specs.declared.event.Event.{Event}
use Rattle.node_machine.specs.declared.event.Event.TheVariants.{OfTrail}
use Rattle.node_machine.specs.declared.event.TrailEvent.{TrailEvent}
use Rattle.node_machine.specs.Parts.{TrailPart, PartState, Fact}
use Rattle.node_machine.specs.Parts.PartState.{Worker, Disc, Trail, Monitor, Dump, Idle}
use Rattle.node_machine.specs.Opening.{Found, opening_parts, trail_part}
use Rattle.node_machine.specs.Trail.{TrailMay, TrailAsks}
use Rattle.node_machine.specs.Node.{node}
use Rattle.audit_writer.specs.Names.{no_config}

-- the state of a trail's part, and what its seat has seen
pub record TrailSight : Type 0 where
  pub part : TrailPart
  pub sight : Sight Event

-- stands where a part is no trail's
abbrev pub no_trail : TrailPart
no_trail = record { config = no_config; number = 0; old = None; present = 0; firsts = []; events = [] }

-- the state of a trail's part
abbrev pub trail_state : PartState → TrailPart
trail_state (Trail s) = s
trail_state (Worker s) = no_trail
trail_state (Disc s) = no_trail
trail_state (Monitor s) = no_trail
trail_state (Dump s) = no_trail
trail_state Idle = no_trail

-- the state of a trail's part, where there is one
abbrev pub trail_in : Option PartState → TrailPart
trail_in None = no_trail
trail_in (Some s) = trail_state s

-- the part with one more event
abbrev pub trail_with_event : TrailPart → TrailEvent → TrailPart
trail_with_event s e = record s { events = e ∷ s.events }

module _ (opening : List PartState) where
  -- what a seat has seen, with the state of its part
  abbrev pub sight_of : Sight Event → TrailSight
  sight_of v = record { part = trail_in (part_state node opening v); sight = v }

  -- the event may happen at the part, and the seat knows what it asks
  abbrev pub MayStep : TrailSight → TrailEvent → Type 0
  MayStep v e = TrailMay v.part e × TrailAsks (Knows node opening v.sight) v.part e

  -- The run opened with what it found, and the seat is of the part of a trail, which is in this state.
  pub record IsTrailAt (found : Found) (v : TrailSight) : Type 0 where
    pub opens : opening ≡ opening_parts found
    pub seat : v.sight.part ≡ Some (trail_part v.part.number)
    pub at : part_state node opening v.sight ≡ Some (Trail v.part)

  -- the part had one more event
  pub record HasStepped (found : Found) (e : TrailEvent) (v w : TrailSight) : Type 0 where
    pub is : IsTrailAt found w
    pub part : w.part ≡ trail_with_event v.part e
    pub mine : own_events w.sight ≡ own_events v.sight ++ OfTrail e ∷ []
    pub seat : w.sight.part ≡ v.sight.part
    pub begins : IsPrefix v.sight.seen w.sight.seen
    pub knows : (f : Fact) → Knows node opening v.sight f → Knows node opening w.sight f

  -- the part's seat and a caller's have told each other all
  pub record HasMet (found : Found) (v w : TrailSight) (caller met : Sight Event) : Type 0 where
    pub is : IsTrailAt found w
    pub part : w.part ≡ v.part
    pub mine : own_events w.sight ≡ own_events v.sight
    pub seat : w.sight.part ≡ v.sight.part
    pub begins : IsPrefix v.sight.seen w.sight.seen
    pub same : w.sight.seen ≡ met.seen
    pub grown : HasGrown caller met
    pub learned : HasLearned node opening caller met
    pub knows : (f : Fact) → Knows node opening v.sight f → Knows node opening w.sight f
    pub told : (f : Fact) → Knows node opening caller f → Knows node opening w.sight f
