use Rattle.std.proofs.Common.{◌∙◌, ap}
use Rattle.chronicle.proofs.Steps.{joins, settles}
use Rattle.chronicle.proofs.counter.join.Goals as goal

pub join_seat-requires : goal.join_seat-requires
join_seat-requires g c =
    (c.requires.own.0, c.requires.other.0, c.requires.other.1, c.requires.own.1, joins g.M.Machine.rules c.args.pass.now.id c.args.other.id c.args.pass.now.me.0 c.args.other.me.0 c.requires.live c.requires.other.2)

pub load-requires : goal.load-requires
load-requires g c =
    let e = c.join_seat.ensures in
    (e.0 ∙ c.requires.own.0, c.requires.own.1, settles g.M.Machine.rules c.args.counter.now.shared.table_id.slots c.join_seat.new.seat.id c.join_seat.new.seat.me (ap (λ m. m.0.stage) e.2 ∙ c.requires.live))
