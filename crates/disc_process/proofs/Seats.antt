-- The seat of a disc, from one moment to the next.
use Rattle.std.proofs.Common.{◌≡◌, ◌∙◌, refl, sym, subst}
use Rattle.chronicle.specs.Seats.{Sight, HasGrown}
use Rattle.node_machine.specs.declared.event.Event.{Event}
use Rattle.disc_process.specs.Seats.{IsLaterSeat}
use Rattle.disc_process.proofs.Drawn.{prefix_same, prefix_then}

pub seat_then : (u v w : Sight Event) → IsLaterSeat u v → IsLaterSeat v w → IsLaterSeat u w
seat_then u v w a b = record { place = b.place ∙ a.place; begins = prefix_then u.seen v.seen w.seen a.begins b.begins }

pub seat_same : (v w : Sight Event) → w ≡ v → IsLaterSeat v w
seat_same v w e = subst (λ (x : Sight Event). IsLaterSeat v x) (sym e) (record { place = refl; begins = prefix_same v.seen v.seen refl })

pub seat_grown : (v w : Sight Event) → HasGrown v w → IsLaterSeat v w
seat_grown v w g = record { place = g.part; begins = g.begins }
