use Rattle.chronicle.proofs.Steps.{notes}
use Rattle.chronicle.proofs.counter.note.Goals as goal

pub split_seat-requires : goal.split_seat-requires
split_seat-requires g c = (c.requires.own.0, c.requires.own.1, notes g.M.Machine.rules c.args.pass.now.id c.args.pass.now.me.0 c.requires.live)
