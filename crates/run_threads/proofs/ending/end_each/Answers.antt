use Rattle.std.proofs.Common.{◌∙◌, ◌+◌, ◌++◌, ◌∷◌, [], ℕ, ap, arith, length, length-append}
use Rattle.std.proofs.lemmas.List.{length-map}
use Rattle.worker_thread.specs.declared.hand.WorkerHand.{WorkerHand}
use Rattle.run_threads.specs.Hands.{workers_of}
use Rattle.run_threads.proofs.Ended.{all_outcomes, all_seats}
use Rattle.run_threads.proofs.Left.{left_count, left_long, left_outcomes, left_seats, left_sum}
use Rattle.run_threads.proofs.ending.end_each.Goals as goal

pub end_hand-requires : goal.end_hand-requires
end_hand-requires g c =
    let i = c.loop-hand.invariant in
    let count = left_count c.loop-hand.rest c.take.new.self c.in-Some.hand c.in-Some.ensures in
    let long = left_long c.loop-hand.rest c.take.new.self c.in-Some.hand c.in-Some.ensures in
    record { seats = omega (arith, i.seats_room, count); outcomes = omega (arith, i.room, long) }

pub loop-hand-preserved : goal.loop-hand-preserved
loop-hand-preserved g c =
    let i = c.loop-hand.invariant in
    let e = c.end_hand.ensures in
    let hands = c.loop-hand.rest in
    let more = c.take.new.self in
    let hand = c.in-Some.hand in
    let first = c.in-Some.ensures in
    let whole = workers_of c.args.hands.items in
    let count = left_count hands more hand first in
    let long = left_long hands more hand first in
    let parts = left_sum hands more hand first (λ (one : WorkerHand _). one.worker.share.parts) in
    let amount = left_sum hands more hand first (λ (one : WorkerHand _). one.worker.share.amount) in
    let grown = ap length e.seats ∙ length-append c.loop-hand.seats.items (all_seats (workers_of (hand ∷ []))) ∙ ap (λ (n : ℕ). length c.loop-hand.seats.items + n) (length-map (workers_of (hand ∷ [])) (λ (one : WorkerHand _). one.worker.seat)) in
    let longer = ap length e.outcomes ∙ length-append c.loop-hand.outcomes.items (all_outcomes (workers_of (hand ∷ []))) in
    record {
      seats = left_seats hands more hand first c.loop-hand.seats.items (c.args.seats.now.items ++ all_seats whole) c.end_hand.new.seats.items i.seats e.seats;
      outcomes = left_outcomes hands more hand first c.loop-hand.outcomes.items (c.args.outcomes.now.items ++ all_outcomes whole) c.end_hand.new.outcomes.items i.outcomes e.outcomes;
      parts = omega (arith, i.parts, e.merged.parts, parts);
      amount = omega (arith, i.amount, e.merged.amount, amount);
      seats_room = omega (arith, i.seats_room, count, e.room.0, grown);
      room = omega (arith, i.room, long, e.room.1, longer);
      capacity = e.room.0 ∙ i.capacity;
    }
