use Rattle.std.proofs.Common.{arith}
use Rattle.run_threads.proofs.Made.{many_discs}
use Rattle.run_threads.proofs.making.make_hands.Goals as goal

pub add_workers-requires-clause-room : goal.add_workers-requires-clause-room
add_workers-requires-clause-room g c =
    let made = c.add_discs.ensures in
    let many = many_discs c.add_discs.new.hands.items c.args.discs made.hands in
    omega (arith, many, made.room, c.requires.crew.room)
