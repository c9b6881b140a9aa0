use Rattle.std.specs.Prelude.{◌≡◌, [], List, length}
use Rattle.std.proofs.Common.{refl, ap, arith}
use Rattle.chronicle.specs.Seats.{Sight}
use Rattle.node_machine.specs.declared.event.Event.{Event}
use Rattle.run_outcomes.specs.Devices.{workers}
use Rattle.run_states.specs.Post.{PostView, tokens_of}
use Rattle.node_run.specs.Tokens.{all_parts}
use Rattle.node_run.proofs.Moving.{behind_none}
use Rattle.node_run.proofs.TakenDown.{taken_down}
use Rattle.node_run.proofs.closing.take_down.Goals as goal

pub returns : goal.returns
returns g c =
    let end = c.end_hands-seats in
    let back = c.into_posts-posts.ensures.back in
    let own : List (Sight Event) = end.result.items in
    let moved : List (Sight Event) = c.move_seats.new.seats.items in
    let posts : List PostView = c.into_posts-posts.result.items in
    let few : length own ≡ workers = omega (arith, end.ensures.seats.0, end.result.ok.0) in
    let same : moved ≡ own = behind_none c.args.room.seats.items own moved c.requires.room.1.empty c.move_seats.ensures.moved in
    let moved_few : length moved ≡ length own = ap (λ (l : List (Sight Event)). length l) same in
    let none : tokens_of [] ≡ 0 = refl in
    let parts : c.into_posts-posts.new.home.parts ≡ all_parts = omega (arith, c.requires.tokens.parts, end.ensures.parts, back.parts) in
    let home = c.audit.ensures.whole parts in
    taken_down g.D.Disk g.J.NodeRun.found c.args.phase.now g.J.NodeRun.faults g.J.DeviceRun.devices g.J.Run.opening end.new.outcomes.items own moved c.take_apart.new.seats.items c.take_apart.new.devices.items
    end.new.home.amount (tokens_of posts) c.requires.name.volumes.opens end.ensures.ended few same c.take_apart.ensures.kept
    (omega (arith, c.take_apart.ensures.more, c.take_apart.new.seats.ok.0, c.move_seats.new.seats.ok.0, moved_few, few)) c.take_apart.ensures.done
    (omega (arith, c.take_apart.ensures.count, c.take_apart.new.devices.ok.0)) c.take_apart.ensures.tokens (omega (arith, back.amount, none, home, c.requires.tokens.total))
