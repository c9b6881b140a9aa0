-- The seat of a disc at a later moment.
use Rattle.std.specs.Prelude.{◌≡◌}
use mathlib.Core.List.{IsPrefix}
use Rattle.chronicle.specs.Seats.{Sight}
use Rattle.node_machine.specs.declared.event.Event.{Event}

-- the seat is of the same part, and what it had seen stands first in what it has seen
pub record IsLaterSeat (v w : Sight Event) : Type 0 where
  pub place : w.part ≡ v.part
  pub begins : IsPrefix v.seen w.seen
