-- What the start and the end of a dump say.
use Rattle.std.specs.Prelude.{◌≡◌, ◌+◌, ◌++◌, ◌==◌, ℕ, Bool, false, List, [], ◌∷◌, Option, Some, None, IsSome, if◌then◌else◌}
use Rattle.chronicle.specs.Histories.{events_of}
use Rattle.chronicle.specs.Seats.{Sight, HasGrown, HasLearned, own_events}
use Rattle.tmf_model.specs.declared.transid.Transid.{Transid}
use Rattle.node_machine.specs.declared.event.Cause.TheVariants.{Dumping}
use Rattle.node_machine.specs.declared.event.DiscEvent.TheVariants as did
use Rattle.node_machine.specs.declared.event.Event.{Event}
use Rattle.node_machine.specs.declared.event.Event.TheVariants.{OfDisc}
use Rattle.node_machine.specs.Disc.{IsGreatestQuiet, MayRest}
use Rattle.node_machine.specs.Made.{dumps_begun, rest_start, under_way}
use Rattle.node_machine.specs.Node.{node}
use Rattle.node_machine.specs.Opening.{disc_part}
use Rattle.node_machine.specs.Parts.{DiscPart, DumpStart, PartState}
use Rattle.disc_process.specs.Disc.{DiscView}

-- the next dump has begun at the greatest quiet position, and none was under way
pub record HasStarted {D : Type 0} (item : Transid) (old new : DiscView D) (number start : ℕ) : Type 0 where
  pub alone : under_way old.part.events ≡ None
  pub next : number ≡ dumps_begun old.part.events + 1
  pub quiet : IsGreatestQuiet old.part start
  pub events : own_events new.seat ≡ own_events old.seat ++ OfDisc (did.Start number start item) ∷ []

-- a dump was under way, and a Turn tells it
pub record IsDumping {D : Type 0} (item : Transid) (old new : DiscView D) : Type 0 where
  pub busy : IsSome (under_way old.part.events)
  pub events : own_events new.seat ≡ own_events old.seat ++ OfDisc (did.Turn item Dumping) ∷ []

-- A seat has seen more, and still knows what it knew. It has then seen all events of the disc.
pub record HasHeard {D : Type 0} (opening : List PartState) (disc : DiscView D) (old new : Sight Event) : Type 0 where
  pub grown : HasGrown old new
  pub still_knows : HasLearned node opening old new
  pub events : events_of (disc_part disc.part.number) new.seen ≡ own_events disc.seat

-- whether the dump under way is the one of this number
abbrev pub is_way : Option DumpStart → ℕ → Bool
is_way None number = false
is_way (Some dump) number = dump.number == number

-- the events of the end of a dump: none where it is not under way
abbrev pub raisings : DiscPart → ℕ → Option ℕ → List Event
raisings s number rest = if is_way (under_way s.events) number then OfDisc (did.Raise number rest) ∷ [] else []

-- where the dump is under way, its end may leave this rest start
abbrev pub MayEnd : DiscPart → ℕ → Option ℕ → Type 0
MayEnd s number rest = (dump : DumpStart) → under_way s.events ≡ Some dump → dump.number ≡ number → MayRest (rest_start s.rest s.events) rest dump.start
