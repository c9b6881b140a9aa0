use Rattle.std.specs.Prelude.{slice_index_or}
use Rattle.std.specs.List.{remove}
use Rattle.std.proofs.Common.{◌≡◌, ◌<◌, ◌+◌, ap, sym, ◌∙◌, subst, arith}
use Rattle.run_outcomes.specs.Devices.{part_of_device}
use Rattle.chronicle.specs.Seats.{new_seat}
use Rattle.run_states.specs.Seats.{seat_place, seats_left}
use Rattle.run_states.proofs.NextSeats.{next_left, next_seat}
use Rattle.run_states.proofs.seats.Seats.take.Goals as goal

pub returns-clause-seat : goal.returns-clause-seat
returns-clause-seat g c =
    let n = c.self.inside.next in
    let is : n ≡ c.args.self.now = c.self.view_is in
    c.remove.ensures.value
    ∙ ap (λ l. slice_index_or l c.place_of-place.result c.remove.result) c.self.invariant
    ∙ ap (λ p. slice_index_or (seats_left n) p c.remove.result) c.place_of-place.ensures
    ∙ (next_seat n (subst (λ k. k < 21) (sym is) c.requires)).is c.remove.result
    ∙ ap (λ k. new_seat (part_of_device k)) is

pub invariant_of-self : goal.invariant_of-self
invariant_of-self g c =
    let n = c.self.inside.next in
    let place : c.place_of-place.result ≡ seat_place n = c.place_of-place.ensures in
    c.remove.ensures.items ∙ ap (λ l. remove l c.place_of-place.result) c.self.invariant ∙ ap (λ p. remove (seats_left n) p) place ∙ next_left n (n + 1) (omega arith)
