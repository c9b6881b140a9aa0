-- Each part of a node has its seat.
use Rattle.std.proofs.Common.{◌≡◌, ◌<◌, ◌+◌, ◌-◌, zero, suc, ℕ, List, refl, subst, ◌∙◌, ⊎_elim, lit<, arith}
use Rattle.std.proofs.lemmas.Bool.Decides.{leb_tells}
use Rattle.chronicle.specs.Seats.{AreAll, Sight}
use Rattle.node_machine.specs.declared.event.Event.{Event}
use Rattle.run_outcomes.specs.Devices.{part_of_device}
use Rattle.run_states.specs.Post.{HasSeat}

pub part_back : (q : ℕ) → q < 21 → (n : ℕ) × (n < 21) × (part_of_device n ≡ q + 16)
part_back zero lt = (5, lit< tt, refl)
part_back (suc (zero)) lt = (6, lit< tt, refl)
part_back (suc (suc (zero))) lt = (7, lit< tt, refl)
part_back (suc (suc (suc (zero)))) lt = (8, lit< tt, refl)
part_back (suc (suc (suc (suc (zero))))) lt = (9, lit< tt, refl)
part_back (suc (suc (suc (suc (suc (zero)))))) lt = (10, lit< tt, refl)
part_back (suc (suc (suc (suc (suc (suc (zero))))))) lt = (11, lit< tt, refl)
part_back (suc (suc (suc (suc (suc (suc (suc (zero)))))))) lt = (12, lit< tt, refl)
part_back (suc (suc (suc (suc (suc (suc (suc (suc (zero))))))))) lt = (1, lit< tt, refl)
part_back (suc (suc (suc (suc (suc (suc (suc (suc (suc (zero)))))))))) lt = (2, lit< tt, refl)
part_back (suc (suc (suc (suc (suc (suc (suc (suc (suc (suc (zero))))))))))) lt = (3, lit< tt, refl)
part_back (suc (suc (suc (suc (suc (suc (suc (suc (suc (suc (suc (zero)))))))))))) lt = (4, lit< tt, refl)
part_back (suc (suc (suc (suc (suc (suc (suc (suc (suc (suc (suc (suc (zero))))))))))))) lt = (0, lit< tt, refl)
part_back (suc (suc (suc (suc (suc (suc (suc (suc (suc (suc (suc (suc (suc (zero)))))))))))))) lt = (13, lit< tt, refl)
part_back (suc (suc (suc (suc (suc (suc (suc (suc (suc (suc (suc (suc (suc (suc (zero))))))))))))))) lt = (14, lit< tt, refl)
part_back (suc (suc (suc (suc (suc (suc (suc (suc (suc (suc (suc (suc (suc (suc (suc (zero)))))))))))))))) lt = (15, lit< tt, refl)
part_back (suc (suc (suc (suc (suc (suc (suc (suc (suc (suc (suc (suc (suc (suc (suc (suc (zero))))))))))))))))) lt = (16, lit< tt, refl)
part_back (suc (suc (suc (suc (suc (suc (suc (suc (suc (suc (suc (suc (suc (suc (suc (suc (suc (zero)))))))))))))))))) lt = (17, lit< tt, refl)
part_back (suc (suc (suc (suc (suc (suc (suc (suc (suc (suc (suc (suc (suc (suc (suc (suc (suc (suc (zero))))))))))))))))))) lt = (18, lit< tt, refl)
part_back (suc (suc (suc (suc (suc (suc (suc (suc (suc (suc (suc (suc (suc (suc (suc (suc (suc (suc (suc (zero)))))))))))))))))))) lt = (19, lit< tt, refl)
part_back (suc (suc (suc (suc (suc (suc (suc (suc (suc (suc (suc (suc (suc (suc (suc (suc (suc (suc (suc (suc (zero))))))))))))))))))))) lt = (20, lit< tt, refl)
part_back (suc (suc (suc (suc (suc (suc (suc (suc (suc (suc (suc (suc (suc (suc (suc (suc (suc (suc (suc (suc (suc (q)))))))))))))))))))))) lt = absurd (omega (arith, lt))

pub all_seats : (seats : List (Sight Event)) → ((p : ℕ) → p < 16 → HasSeat seats p) → ((n : ℕ) → n < 21 → HasSeat seats (part_of_device n)) → AreAll 37 seats
all_seats seats workers devices p lt =
    ⊎_elim
    (λ h. let w = workers p h.1 in (w.seat, w.has, w.is))
    (λ h.
    let b = part_back (p - 16) (omega (arith, lt, h.1)) in
    let same : part_of_device b.0 ≡ p = b.2 ∙ omega (arith, h.1) in
    let w = subst (HasSeat seats) same (devices b.0 b.1) in (w.seat, w.has, w.is))
    (leb_tells (suc p) 16)
