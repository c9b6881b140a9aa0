-- A disc that is as it was.
use Rattle.std.specs.Prelude.{List, []}
use Rattle.std.proofs.Common.{refl, sym, append-nil}
use Rattle.chronicle.specs.Seats.{own_events}
use Rattle.disc_process.specs.Disc.{DiscView}
use Rattle.disc_process.specs.Later.{IsLaterDisc}
use Rattle.node_machine.specs.Parts.{PartState}

-- it is the same disc at a later moment
pub disc_still : {D : Type 0} (opening : List PartState) (disc : DiscView D) → IsLaterDisc opening disc disc
disc_still opening disc = record {
  more = [];
  part = refl;
  events = sym (append-nil (own_events disc.seat));
  place = refl;
  begins = ([], append-nil disc.seat.seen);
  knows = λ f k. k;
}
