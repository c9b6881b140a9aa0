use Rattle.std.proofs.Common.{ap}
use Rattle.chronicle.proofs.Steps.{opens}
use Rattle.chronicle.proofs.counter.open.Goals as goal

pub load-requires : goal.load-requires
load-requires g c =
    (c.requires.own.0, c.requires.own.1, opens g.M.Machine.rules g.O.PicksOpening.opening c.args.counter.now.shared.table_id.slots c.args.pass.now.id c.args.pass.now.me (ap (λ m. m.0) c.requires.first))
