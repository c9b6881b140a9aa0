-- What a step of a transaction keeps, and what is known of one that has ended.
use Rattle.std.proofs.Common.{ℕ, List, Option, Some, None, refl}
use Rattle.chronicle.specs.Seats.{Sight, Knows}
use Rattle.node_machine.specs.declared.event.Event.{Event}
use Rattle.node_machine.specs.Node.{node}
use Rattle.node_machine.specs.Parts.{Fact, PartState}
use Rattle.txn_states.specs.Txn.{HasAdvanced, HasEnded, HasStepped, Txn}

-- a seat that knows more knows its end
pub ended_more : (opening : List PartState) (t : Txn) (w : Sight Event) (place : Option ℕ) → ((f : Fact) → Knows node opening t.seat f → Knows node opening w f)
    → HasEnded opening t place → HasEnded opening (record t { seat = w }) place
ended_more opening t w (Some place) more h = more _ h
ended_more opening t w None more h = (more _ h.0, (h.1.0, more _ h.1.1))

-- the same transaction with the seat after these events
pub stepped : (opening : List PartState) (t : Txn) (w : Sight Event) (own : List Event) → HasAdvanced opening t.seat own w → HasStepped opening t own (record t { seat = w })
stepped opening t w own seat = record { tx = refl; discs = refl; steps = refl; seat = seat }
