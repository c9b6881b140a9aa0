-- The tokens that the seats of all parts count.
use Rattle.std.specs.Prelude.{◌≡◌, ℕ, ◌<◌, ◌&&◌, nat_le, Bool, true, false, List, length, Option, Some, if◌then◌else◌}
use Rattle.std.proofs.Common.{refl, sym, ap, ◌∙◌, arith}
use Rattle.std.proofs.lemmas.Bool.Decides.{nat_tests}
use Rattle.chronicle.specs.Histories.{events_of}
use Rattle.chronicle.specs.Seats.{IsWholeOf, Sight, own_events}
use Rattle.node_machine.specs.Deeds.{Log}
use Rattle.node_machine.specs.Moves.{token_count}
use Rattle.node_machine.specs.declared.event.Event.{Event}
use Rattle.run_outcomes.specs.Counted.{all_tokens}
use Rattle.run_outcomes.specs.Devices.{workers}
use Rattle.run_states.specs.Post.{HasSeat, is_disc_part, seat_tokens, tokens_in}
use Rattle.node_run.specs.Closing.{SeatTokensLaw}
use Rattle.node_run.proofs.Once.{HasEach, sum_below, sum_of_each}

-- each number below the bound is that of a part with a seat among these
each_part : (n : ℕ) (seats : List (Sight Event)) → ((p : ℕ) → p < n → HasSeat seats p) → HasEach (λ (v : Sight Event). seat_tokens v) (λ (v : Sight Event). v.part) n seats
each_part n seats has p lt = let one = has p lt in (one.seat, one.has, one.is)

-- how many tokens the part with this number has in a history, where it is a disc's
abbrev tokens_at : Log → ℕ → ℕ
tokens_at log p = if is_disc_part (Some p) then token_count (events_of p log) else 0

seat_counts : (log : Log) (v : Sight Event) (p : ℕ) → IsWholeOf log v → v.part ≡ Some p → seat_tokens v ≡ tokens_at log p
seat_counts log v p whole at =
    ap (λ (o : Option ℕ). if is_disc_part o then token_count (own_events v) else 0) at
    ∙ ap (λ (events : List Event). if is_disc_part (Some p) then token_count events else 0) (sym (whole.mine p at))

all_parts : (log : Log) → sum_below (tokens_at log) 37 ≡ all_tokens log
all_parts log = omega arith

pub seat_tokens_law : SeatTokensLaw
seat_tokens_law = λ log seats are whole.
    sum_of_each (λ (v : Sight Event). seat_tokens v) (λ (v : Sight Event). v.part) (tokens_at log) 37 seats are.many (each_part 37 seats are.has) (λ v has p lt at. seat_counts log v p (whole v has) at)
    ∙ all_parts log

-- A worker is no disc.
no_disc : (p : ℕ) → p < workers → is_disc_part (Some p) ≡ false
no_disc p lt = by_case (nat_le 16 p) refl where
  by_case : (b : Bool) → nat_le 16 p ≡ b → (b && nat_le p 23) ≡ false
  by_case true above = absurd (grind (arith, nat_tests))
  by_case false above = refl

worker_counts : (v : Sight Event) (p : ℕ) → p < workers → v.part ≡ Some p → seat_tokens v ≡ 0
worker_counts v p lt at =
    ap (λ (o : Option ℕ). if is_disc_part o then token_count (own_events v) else 0) at
    ∙ ap (λ (b : Bool). if b then token_count (own_events v) else 0) (no_disc p lt)

none_below : sum_below (λ p. 0) 16 ≡ 0
none_below = refl

-- the seats of the workers count no tokens
pub worker_tokens : (seats : List (Sight Event)) → length seats ≡ workers → ((p : ℕ) → p < workers → HasSeat seats p) → tokens_in seats ≡ 0
worker_tokens seats many has =
    sum_of_each (λ (v : Sight Event). seat_tokens v) (λ (v : Sight Event). v.part) (λ p. 0) 16 seats many (each_part 16 seats has) (λ v has p lt at. worker_counts v p lt at) ∙ none_below
