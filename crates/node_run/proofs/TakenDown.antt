-- What is back when the states of a run were taken apart.
use Rattle.std.specs.Prelude.{◌≡◌, ℕ, zero, suc, ◌+◌, ◌-◌, ◌*◌, ◌<◌, ◌≤◌, List, length, Option, Some}
use Rattle.std.specs.List.{Contains}
use Rattle.std.proofs.Common.{refl, sym, ap, subst, ◌∙◌, arith, lit<, ⊎_elim}
use Rattle.std.proofs.lemmas.Bool.{cases_lt}
use Rattle.chronicle.specs.Seats.{Sight}
use Rattle.disk_model.specs.declared.disk.Disk as disk
use Rattle.node_machine.specs.Opening.{Found, opening_parts, worker_part}
use Rattle.node_machine.specs.Parts.{PartState}
use Rattle.node_machine.specs.declared.event.Event.{Event}
use Rattle.run_outcomes.specs.Devices.{devices, part_of_device, workers}
use Rattle.run_outcomes.specs.Reach.{first_tokens}
use Rattle.run_outcomes.specs.declared.outcome.Outcome.{Outcome}
use Rattle.run_states.specs.Post.{HasSeat, IsDone, tokens_in}
use Rattle.run_threads.specs.Ended.{HaveEnded}
use Rattle.tmf_model.specs.Config.{IsWithin}
use Rattle.tmf_model.specs.declared.script.Phase.{Phase}
use Rattle.node_run.specs.Closing.{AreTakenDown, parts}
use Rattle.node_run.proofs.SeatTokens.{worker_tokens}

-- the device of each part that is no worker's
device_of_part : (q : ℕ) → q < 21 → (n : ℕ) × (n < devices) × (part_of_device n ≡ q + 16)
device_of_part zero lt = (5, lit< tt, refl)
device_of_part (suc (zero)) lt = (6, lit< tt, refl)
device_of_part (suc (suc (zero))) lt = (7, lit< tt, refl)
device_of_part (suc (suc (suc (zero)))) lt = (8, lit< tt, refl)
device_of_part (suc (suc (suc (suc (zero))))) lt = (9, lit< tt, refl)
device_of_part (suc (suc (suc (suc (suc (zero)))))) lt = (10, lit< tt, refl)
device_of_part (suc (suc (suc (suc (suc (suc (zero))))))) lt = (11, lit< tt, refl)
device_of_part (suc (suc (suc (suc (suc (suc (suc (zero)))))))) lt = (12, lit< tt, refl)
device_of_part (suc (suc (suc (suc (suc (suc (suc (suc (zero))))))))) lt = (1, lit< tt, refl)
device_of_part (suc (suc (suc (suc (suc (suc (suc (suc (suc (zero)))))))))) lt = (2, lit< tt, refl)
device_of_part (suc (suc (suc (suc (suc (suc (suc (suc (suc (suc (zero))))))))))) lt = (3, lit< tt, refl)
device_of_part (suc (suc (suc (suc (suc (suc (suc (suc (suc (suc (suc (zero)))))))))))) lt = (4, lit< tt, refl)
device_of_part (suc (suc (suc (suc (suc (suc (suc (suc (suc (suc (suc (suc (zero))))))))))))) lt = (0, lit< tt, refl)
device_of_part (suc (suc (suc (suc (suc (suc (suc (suc (suc (suc (suc (suc (suc (zero)))))))))))))) lt = (13, lit< tt, refl)
device_of_part (suc (suc (suc (suc (suc (suc (suc (suc (suc (suc (suc (suc (suc (suc (zero))))))))))))))) lt = (14, lit< tt, refl)
device_of_part (suc (suc (suc (suc (suc (suc (suc (suc (suc (suc (suc (suc (suc (suc (suc (zero)))))))))))))))) lt = (15, lit< tt, refl)
device_of_part (suc (suc (suc (suc (suc (suc (suc (suc (suc (suc (suc (suc (suc (suc (suc (suc (zero))))))))))))))))) lt = (16, lit< tt, refl)
device_of_part (suc (suc (suc (suc (suc (suc (suc (suc (suc (suc (suc (suc (suc (suc (suc (suc (suc (zero)))))))))))))))))) lt = (17, lit< tt, refl)
device_of_part (suc (suc (suc (suc (suc (suc (suc (suc (suc (suc (suc (suc (suc (suc (suc (suc (suc (suc (zero))))))))))))))))))) lt = (18, lit< tt, refl)
device_of_part (suc (suc (suc (suc (suc (suc (suc (suc (suc (suc (suc (suc (suc (suc (suc (suc (suc (suc (suc (zero)))))))))))))))))))) lt = (19, lit< tt, refl)
device_of_part (suc (suc (suc (suc (suc (suc (suc (suc (suc (suc (suc (suc (suc (suc (suc (suc (suc (suc (suc (suc (zero))))))))))))))))))))) lt = (20, lit< tt, refl)
device_of_part (suc (suc (suc (suc (suc (suc (suc (suc (suc (suc (suc (suc (suc (suc (suc (suc (suc (suc (suc (suc (suc (q)))))))))))))))))))))) lt = absurd (omega (arith, lt))

module _ {D : Type 0} (kind : disk.Ghosts D) (found : Found) (phase : Phase) (faults : ℕ → ℕ) (handed_in : ℕ → Option D) where
  -- workers that have ended have done so among more seats
  ended_among : (own seats : List (Sight Event)) (amount : ℕ) (outcomes : List Outcome) → ((v : Sight Event) → Contains own v → Contains seats v)
      → HaveEnded kind found phase handed_in own amount outcomes → HaveEnded kind found phase handed_in seats amount outcomes
  ended_among own seats amount outcomes more e = record {
    reach = e.reach;
    acts = e.acts;
    moves = e.moves;
    of = e.of;
    is = e.is;
    has = λ worker within. more (e.reach worker).seat (e.has worker within);
    each = e.each;
    all = e.all;
    in_order = e.in_order;
    tokens = e.tokens;
  }

  -- their seats are those of the first 16 parts
  worker_seats : (seats : List (Sight Event)) (amount : ℕ) (outcomes : List Outcome) → HaveEnded kind found phase handed_in seats amount outcomes → (p : ℕ) → p < workers → HasSeat seats p
  worker_seats seats amount outcomes e p lt =
      let within : IsWithin 1 workers (suc p) = record { above = omega arith; below = omega (arith, lt) } in
      let same : worker_part (suc p) ≡ p = omega arith in
      record { seat = (e.reach (suc p)).seat; has = e.has (suc p) within; is = (e.is (suc p) within).part ∙ ap (λ (n : ℕ). Some n) same }

  all_seats : (opening : List PartState) (left : List D) (seats : List (Sight Event)) → ((p : ℕ) → p < workers → HasSeat seats p)
      → ((n : ℕ) → n < devices → IsDone kind opening found faults handed_in left seats n) → (p : ℕ) → p < parts → HasSeat seats p
  all_seats opening left seats own done p lt =
      ⊎_elim
      (λ (first : p < 16). own p first)
      (λ (behind : 16 ≤ p).
      let place = device_of_part (p - 16) (omega (arith, lt, behind)) in
      let same : part_of_device place.0 ≡ p = place.2 ∙ omega (arith, behind) in
      let one = done place.0 place.1 in
      subst (HasSeat seats) same (record { seat = one.seat; has = one.has; is = one.post.part }))
      (cases_lt p 16)

  pub taken_down : (opening : List PartState) (outcomes : List Outcome) (own moved seats : List (Sight Event)) (left : List D) (amount posted : ℕ)
      → opening ≡ opening_parts found
      → HaveEnded kind found phase handed_in own amount outcomes
      → length own ≡ workers
      → moved ≡ own
      → ((v : Sight Event) → Contains moved v → Contains seats v)
      → length seats ≡ parts
      → ((n : ℕ) → n < devices → IsDone kind opening found faults handed_in left seats n)
      → length left ≡ devices
      → tokens_in seats ≡ tokens_in moved + posted
      → amount + posted ≡ workers * first_tokens
      → AreTakenDown kind found phase faults handed_in outcomes seats left
  taken_down opening outcomes own moved seats left amount posted opens e few same kept many done count counted all =
      let more : (v : Sight Event) → Contains own v → Contains seats v = λ v has. kept v (subst (λ (l : List (Sight Event)). Contains l v) (sym same) has) in
      let among = ended_among own seats amount outcomes more e in
      let none : tokens_in moved ≡ 0 = ap (λ (l : List (Sight Event)). tokens_in l) same ∙ worker_tokens own few (worker_seats own amount outcomes e) in
      record {
        amount = amount;
        ended = among;
        tokens = omega (arith, counted, none, all);
        seats_are = record { many = many; has = all_seats opening left seats (worker_seats seats amount outcomes among) done };
        done = λ n lt. subst (λ (o : List PartState). IsDone kind o found faults handed_in left seats n) opens (done n lt);
        count = count;
      }
