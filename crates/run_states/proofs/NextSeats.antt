-- The seat of each device stands at its place among those that are left.
use Rattle.std.specs.Prelude.{slice_index_or}
use Rattle.std.specs.List.{remove}
use Rattle.std.proofs.Common.{◌≡◌, ◌<◌, ℕ, zero, suc, length, refl, subst, lit<, arith}
use Rattle.chronicle.specs.Seats.{Sight, new_seat}
use Rattle.run_outcomes.specs.Devices.{part_of_device}
use Rattle.node_machine.specs.declared.event.Event.{Event}
use Rattle.run_states.specs.Seats.{seat_place, seats_left}

pub record IsNext (n : ℕ) : Type 0 where
  pub there : seat_place n < length (seats_left n)
  pub is : (d : Sight Event) → slice_index_or (seats_left n) (seat_place n) d ≡ new_seat (part_of_device n)

pub next_seat : (n : ℕ) → n < 21 → IsNext n
next_seat zero few = record { there = lit< tt; is = λ d. refl }
next_seat (suc (zero)) few = record { there = lit< tt; is = λ d. refl }
next_seat (suc (suc (zero))) few = record { there = lit< tt; is = λ d. refl }
next_seat (suc (suc (suc (zero)))) few = record { there = lit< tt; is = λ d. refl }
next_seat (suc (suc (suc (suc (zero))))) few = record { there = lit< tt; is = λ d. refl }
next_seat (suc (suc (suc (suc (suc (zero)))))) few = record { there = lit< tt; is = λ d. refl }
next_seat (suc (suc (suc (suc (suc (suc (zero))))))) few = record { there = lit< tt; is = λ d. refl }
next_seat (suc (suc (suc (suc (suc (suc (suc (zero)))))))) few = record { there = lit< tt; is = λ d. refl }
next_seat (suc (suc (suc (suc (suc (suc (suc (suc (zero))))))))) few = record { there = lit< tt; is = λ d. refl }
next_seat (suc (suc (suc (suc (suc (suc (suc (suc (suc (zero)))))))))) few = record { there = lit< tt; is = λ d. refl }
next_seat (suc (suc (suc (suc (suc (suc (suc (suc (suc (suc (zero))))))))))) few = record { there = lit< tt; is = λ d. refl }
next_seat (suc (suc (suc (suc (suc (suc (suc (suc (suc (suc (suc (zero)))))))))))) few = record { there = lit< tt; is = λ d. refl }
next_seat (suc (suc (suc (suc (suc (suc (suc (suc (suc (suc (suc (suc (zero))))))))))))) few = record { there = lit< tt; is = λ d. refl }
next_seat (suc (suc (suc (suc (suc (suc (suc (suc (suc (suc (suc (suc (suc (zero)))))))))))))) few = record { there = lit< tt; is = λ d. refl }
next_seat (suc (suc (suc (suc (suc (suc (suc (suc (suc (suc (suc (suc (suc (suc (zero))))))))))))))) few = record { there = lit< tt; is = λ d. refl }
next_seat (suc (suc (suc (suc (suc (suc (suc (suc (suc (suc (suc (suc (suc (suc (suc (zero)))))))))))))))) few = record { there = lit< tt; is = λ d. refl }
next_seat (suc (suc (suc (suc (suc (suc (suc (suc (suc (suc (suc (suc (suc (suc (suc (suc (zero))))))))))))))))) few = record { there = lit< tt; is = λ d. refl }
next_seat (suc (suc (suc (suc (suc (suc (suc (suc (suc (suc (suc (suc (suc (suc (suc (suc (suc (zero)))))))))))))))))) few = record { there = lit< tt; is = λ d. refl }
next_seat (suc (suc (suc (suc (suc (suc (suc (suc (suc (suc (suc (suc (suc (suc (suc (suc (suc (suc (zero))))))))))))))))))) few = record { there = lit< tt; is = λ d. refl }
next_seat (suc (suc (suc (suc (suc (suc (suc (suc (suc (suc (suc (suc (suc (suc (suc (suc (suc (suc (suc (zero)))))))))))))))))))) few = record { there = lit< tt; is = λ d. refl }
next_seat (suc (suc (suc (suc (suc (suc (suc (suc (suc (suc (suc (suc (suc (suc (suc (suc (suc (suc (suc (suc (zero))))))))))))))))))))) few = record { there = lit< tt; is = λ d. refl }
next_seat (suc (suc (suc (suc (suc (suc (suc (suc (suc (suc (suc (suc (suc (suc (suc (suc (suc (suc (suc (suc (suc (n)))))))))))))))))))))) few = absurd (omega (arith, few))

pub next_left : (n m : ℕ) → suc n ≡ m → remove (seats_left n) (seat_place n) ≡ seats_left m
next_left n m e = subst (λ k. remove (seats_left n) (seat_place n) ≡ seats_left k) e refl
