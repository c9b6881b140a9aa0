-- The seat of a dump device's part, with the state of that part.
use Rattle.std.specs.Prelude.{◌≡◌, List, [], ◌∷◌, ◌++◌, reverse, Option, Some, None}
use mathlib.Core.List.{IsPrefix}
use Rattle.chronicle.specs.Seats.{Sight, HasGrown, HasLearned, IsUnion, Knows, own_events, part_state}
use Rattle.audit_writer.specs.Names.{no_config}
use Rattle.node_machine.specs.declared.event.DumpEvent.{DumpEvent}
use Rattle.node_machine.specs.declared.event.Event.{Event}
use Rattle.node_machine.specs.declared.event.Event.TheVariants.{OfDump}
use Rattle.node_machine.specs.Dump.{DumpAsks, DumpMay}
use Rattle.node_machine.specs.Node.{node}
use Rattle.node_machine.specs.Opening.{Found, VolumeFound, dump_part, found_volume, opening_parts}
use Rattle.node_machine.specs.Parts.{DumpPart, Fact, PartState}
use Rattle.node_machine.specs.Parts.PartState.{Worker, Disc, Trail, Monitor, Dump, Idle}

-- the state of a dump device's part, and what its seat has seen
pub record DumpSight : Type 0 where
  pub part : DumpPart
  pub sight : Sight Event

-- stands where a part is no dump device's
abbrev pub no_dump : DumpPart
no_dump = record { config = no_config; number = 0; rest = None; events = [] }

-- the state of a dump device's part
abbrev pub dump_state : PartState → DumpPart
dump_state (Dump s) = s
dump_state (Worker s) = no_dump
dump_state (Disc s) = no_dump
dump_state (Trail s) = no_dump
dump_state (Monitor s) = no_dump
dump_state Idle = no_dump

-- the state of a dump device's part, where there is one
abbrev pub dump_in : Option PartState → DumpPart
dump_in None = no_dump
dump_in (Some s) = dump_state s

-- the part with one more event
abbrev pub dump_with_event : DumpPart → DumpEvent → DumpPart
dump_with_event s e = record s { events = e ∷ s.events }

-- the part with more events, the first of them first
abbrev pub dump_after : DumpPart → List DumpEvent → DumpPart
dump_after s [] = s
dump_after s (e ∷ es) = dump_after (dump_with_event s e) es

-- events of a dump device, as a history has them
abbrev pub of_dump : List DumpEvent → List Event
of_dump [] = []
of_dump (e ∷ es) = OfDump e ∷ of_dump es

-- the dump device has had these events, the first of them first, and its seat has lost nothing of what it had seen
pub record HasHad (es : List DumpEvent) (v w : DumpSight) : Type 0 where
  pub part : w.part ≡ dump_after v.part es
  pub mine : own_events w.sight ≡ own_events v.sight ++ of_dump es
  pub begins : IsPrefix v.sight.seen w.sight.seen

-- what was found of the volume when the run opened is what the part began with
pub record IsFoundDump (found : Found) (part : DumpPart) : Type 0 where
  pub entry : VolumeFound
  pub is : found_volume found part.number ≡ Some entry
  pub config : part.config ≡ found.config
  pub rest : part.rest ≡ entry.rest

module _ (opening : List PartState) where
  -- what a seat has seen, with the state of its part
  abbrev pub sight_of : Sight Event → DumpSight
  sight_of v = record { part = dump_in (part_state node opening v); sight = v }

  -- the event may happen at the part, and the seat knows what it asks
  abbrev pub MayStep : DumpSight → DumpEvent → Type 0
  MayStep v e = DumpMay v.part e × DumpAsks (Knows node opening v.sight) v.part e

  -- The run opened with what it found, and the seat is of the part of a dump device, which is in this state.
  pub record IsDumpAt (found : Found) (v : DumpSight) : Type 0 where
    pub opens : opening ≡ opening_parts found
    pub seat : v.sight.part ≡ Some (dump_part v.part.number)
    pub at : part_state node opening v.sight ≡ Some (Dump v.part)
    pub was : IsFoundDump found v.part
    -- its seat has seen the part's events
    pub told : own_events v.sight ≡ of_dump (reverse v.part.events)

  -- the seat has seen more: the part has had these events, and what the seat knew it knows
  pub record HasStepped (found : Found) (es : List DumpEvent) (v w : DumpSight) : Type 0 where
    pub is : IsDumpAt found w
    pub had : HasHad es v w
    pub knows : (f : Fact) → Knows node opening v.sight f → Knows node opening w.sight f

  -- the part's seat and a caller's have told each other all
  pub record HasMet (found : Found) (v w : DumpSight) (caller met : Sight Event) : Type 0 where
    pub stepped : HasStepped found [] v w
    pub told : (f : Fact) → Knows node opening caller f → Knows node opening w.sight f
    pub same : w.sight.seen ≡ met.seen
    pub union : IsUnion v.sight.seen caller.seen met.seen
    pub grown : HasGrown caller met
    pub learned : HasLearned node opening caller met
