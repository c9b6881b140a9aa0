-- What the release of a transaction makes of a disc.
use Rattle.std.specs.Prelude.{◌≡◌, ◌⊎◌, ◌++◌, ℕ, true, List, [], ◌∷◌, if◌then◌else◌}
use mathlib.Core.List.{IsPrefix}
use Rattle.chronicle.specs.Seats.{own_events}
use Rattle.tmf_model.specs.declared.transid.Transid.{Transid}
use Rattle.node_machine.specs.declared.event.DiscEvent.{DiscEvent}
use Rattle.node_machine.specs.declared.event.DiscEvent.TheVariants as did
use Rattle.node_machine.specs.declared.event.Event.{Event}
use Rattle.node_machine.specs.declared.event.Event.TheVariants.{OfDisc}
use Rattle.node_machine.specs.Opening.{disc_part}
use Rattle.node_machine.specs.Parts.{DiscPart}
use Rattle.node_machine.specs.Same.{Among}
use Rattle.txn_states.specs.Txn.{Txn}
use Rattle.disc_process.specs.Coming.{has_come, is_coming_of, is_live}
use Rattle.disc_process.specs.Disc.{DiscView}

-- the events of a release: none where the transaction never came here, or has released
abbrev pub releasings : List DiscEvent → Transid → List Event
releasings events t = if is_live events t then OfDisc (did.Release t) ∷ [] else []

-- the part with this event more
abbrev pub with_event : DiscPart → DiscEvent → DiscPart
with_event s e = record s { events = e ∷ s.events }

-- the part after it
abbrev pub freed_part : DiscPart → Transid → DiscPart
freed_part s t = if is_live s.events t then with_event s (did.Release t) else s

-- the transaction has released, unless it never came here or had released before; nothing else has happened
pub record HasFreed {D : Type 0} (old new : DiscView D) (t : Transid) : Type 0 where
  pub part : new.part ≡ freed_part old.part t
  pub events : own_events new.seat ≡ own_events old.seat ++ releasings old.part.events t
  pub blocks : new.blocks ≡ old.blocks
  pub place : new.seat.part ≡ old.seat.part
  pub begins : IsPrefix old.seat.seen new.seat.seen

-- the transaction has come to the disc, or its seat has seen an event by which it came
abbrev pub IsComer : DiscPart → Transid → List (ℕ × Event) → Type 0
IsComer s t seen = (has_come s.events t ≡ true) ⊎ ((e : DiscEvent) × (is_coming_of e t ≡ true) × Among seen (disc_part s.number, OfDisc e))

-- where it has, its seat has then seen its release there
abbrev pub IsReleaseSeen : DiscPart → Txn → Txn → Type 0
IsReleaseSeen s old new = IsComer s old.tx old.seat.seen → Among new.seat.seen (disc_part s.number, OfDisc (did.Release old.tx))
