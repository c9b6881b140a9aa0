use Rattle.std.proofs.Common.{◌≡◌, suc, List, length, sym, ap, ◌∙◌, arith}
use Rattle.chronicle.specs.Seats.{Sight, own_events}
use Rattle.disc_lock.specs.Locks.{number_of}
use Rattle.node_machine.specs.Moves.{token_count}
use Rattle.node_machine.specs.declared.event.Event.{Event}
use Rattle.run_outcomes.specs.Devices.{volume_device}
use Rattle.run_states.specs.Post.{PostView, seat_tokens, tokens_of}
use Rattle.run_states.proofs.Counting.{disc_counts, numbers_moved}
use Rattle.run_states.proofs.Numbers.{disc_within}
use Rattle.run_states.proofs.Taking.{posts_more}
use Rattle.run_states.proofs.rows.post_discs.Goals as goal

pub loop-disc-preserved : goal.loop-disc-preserved
loop-disc-preserved g c =
    let i = c.loop-disc.invariant in
    let posts : List PostView = c.loop-disc.posts.items in
    let post : PostView = c.of_disc-post.result in
    let pushed = c.push_reserved.ensures.items in
    let less : length c.loop-disc.rest ≡ suc (length c.take.new.self) = ap length c.in-Some.ensures in
    let within = disc_within c.in-Some.disc in
    let number : post.number ≡ volume_device (number_of c.in-Some.disc) = c.of_disc-post.ensures.number ∙ ap volume_device c.number-number.ensures in
    let counts : seat_tokens post.seat ≡ token_count (own_events post.seat) = disc_counts post.seat post.number c.lawful.ensures (omega (arith, within.0, number)) (omega (arith, within.1, number)) in
    let same : token_count (own_events post.seat) ≡ c.into_state-state.result.1.amount =
    ap (λ (v : Sight Event). token_count (own_events v)) c.of_disc-post.ensures.seat ∙ sym c.into_state-state.ensures.counted.amount in
    let more = posts_more posts post in
    record {
      places = numbers_moved (λ disc. volume_device (number_of disc)) posts c.push_reserved.new.self.items post c.loop-disc.rest c.take.new.self c.in-Some.disc pushed c.in-Some.ensures number ∙ i.places;
      parts = omega (arith, i.parts, less, c.merge.ensures.parts, c.into_state-state.ensures.counted.part);
      amount = (let here = ap tokens_of pushed in omega (arith, here, more, counts, same, i.amount, c.merge.ensures.amount));
      room = omega (arith, i.room, less, c.push_reserved.ensures.len, c.push_reserved.ensures.capacity);
      capacity = c.push_reserved.ensures.capacity ∙ i.capacity;
    }
