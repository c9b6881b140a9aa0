use Rattle.chronicle.proofs.Steps.{deals}
use Rattle.chronicle.proofs.counter.deal.Goals as goal

pub split_seat-requires : goal.split_seat-requires
split_seat-requires g c =
    (c.requires.own.0, c.requires.own.1, deals g.M.Machine.rules c.args.pass.now.id c.args.pass.now.me.0 c.requires.live.0 c.requires.live.1 c.requires.alone)
