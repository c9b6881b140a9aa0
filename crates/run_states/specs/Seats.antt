-- The seats that are left while those of devices are taken in the order of the devices.
use Rattle.std.specs.Prelude.{ℕ, zero, suc, List}
use Rattle.std.specs.List.{remove}
use Rattle.chronicle.specs.Seats.{Sight, new_seats}
use Rattle.node_machine.specs.declared.event.Event.{Event}

-- where the seat of this device stands among those that are left
abbrev pub seat_place : ℕ → ℕ
seat_place zero = 28
seat_place (suc zero) = 24
seat_place (suc (suc zero)) = 24
seat_place (suc (suc (suc zero))) = 24
seat_place (suc (suc (suc (suc zero)))) = 24
seat_place (suc (suc (suc (suc (suc n))))) = 16

-- those that are left before the seat of this device is taken
abbrev pub seats_left : ℕ → List (Sight Event)
seats_left zero = new_seats 37
seats_left (suc n) = remove (seats_left n) (seat_place n)
