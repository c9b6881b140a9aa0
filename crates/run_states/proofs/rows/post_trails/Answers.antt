use Rattle.std.proofs.Common.{◌≡◌, suc, List, length, ap, ◌∙◌, arith}
use Rattle.audit_writer.specs.Writers.{number_of}
use Rattle.run_states.specs.Post.{PostView, seat_tokens, tokens_of}
use Rattle.run_states.proofs.Counting.{numbers_moved, trail_counts}
use Rattle.run_states.proofs.Posts.{writer_within}
use Rattle.run_states.proofs.Taking.{posts_more}
use Rattle.run_states.proofs.rows.post_trails.Goals as goal

pub loop-writer-preserved : goal.loop-writer-preserved
loop-writer-preserved g c =
    let i = c.loop-writer.invariant in
    let posts : List PostView = c.loop-writer.posts.items in
    let post : PostView = c.of_writer-post.result in
    let pushed = c.push_reserved.ensures.items in
    let less : length c.loop-writer.rest ≡ suc (length c.take.new.self) = ap length c.in-Some.ensures in
    let within = writer_within c.in-Some.writer in
    let number = c.of_writer-post.ensures in
    let none : seat_tokens post.seat ≡ 0 = trail_counts post.seat post.number c.lawful.ensures (omega (arith, within.1, number)) in
    let more = posts_more posts post in
    record {
      places = numbers_moved number_of posts c.push_reserved.new.self.items post c.loop-writer.rest c.take.new.self c.in-Some.writer pushed c.in-Some.ensures number ∙ i.places;
      tokens = (let here = ap tokens_of pushed in omega (arith, here, more, none, i.tokens));
      room = omega (arith, i.room, less, c.push_reserved.ensures.len, c.push_reserved.ensures.capacity);
      capacity = c.push_reserved.ensures.capacity ∙ i.capacity;
    }
