use Rattle.std.proofs.Common.{◌≡◌, suc, List, length, ap, ◌∙◌, arith}
use Rattle.online_dump.specs.Locks.{dumper_number}
use Rattle.run_outcomes.specs.Devices.{dump_device}
use Rattle.run_states.specs.Post.{PostView, seat_tokens, tokens_of}
use Rattle.run_states.proofs.Counting.{dump_counts, numbers_moved}
use Rattle.run_states.proofs.Dumpers.{dumper_within}
use Rattle.run_states.proofs.Taking.{posts_more}
use Rattle.run_states.proofs.rows.post_dumpers.Goals as goal

pub loop-dumper-preserved : goal.loop-dumper-preserved
loop-dumper-preserved g c =
    let i = c.loop-dumper.invariant in
    let posts : List PostView = c.loop-dumper.posts.items in
    let post : PostView = c.of_dumper-post.result in
    let pushed = c.push_reserved.ensures.items in
    let less : length c.loop-dumper.rest ≡ suc (length c.take.new.self) = ap length c.in-Some.ensures in
    let within = dumper_within c.in-Some.dumper in
    let number = c.of_dumper-post.ensures in
    let none : seat_tokens post.seat ≡ 0 = dump_counts post.seat post.number c.lawful.ensures (omega (arith, within.0, number)) (omega (arith, within.1, number)) in
    let more = posts_more posts post in
    record {
      places = numbers_moved (λ dumper. dump_device (dumper_number dumper)) posts c.push_reserved.new.self.items post c.loop-dumper.rest c.take.new.self c.in-Some.dumper pushed c.in-Some.ensures number ∙ i.places;
      tokens = (let here = ap tokens_of pushed in omega (arith, here, more, none, i.tokens));
      room = omega (arith, i.room, less, c.push_reserved.ensures.len, c.push_reserved.ensures.capacity);
      capacity = c.push_reserved.ensures.capacity ∙ i.capacity;
    }
