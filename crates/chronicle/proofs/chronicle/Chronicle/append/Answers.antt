use Rattle.std.proofs.Common.{[], ◌∷◌}
use Rattle.chronicle.proofs.Facts.{known_of_part, still_known}
use Rattle.chronicle.proofs.Prefixes.{prefix_appended}
use Rattle.chronicle.proofs.chronicle.Chronicle.append.Goals as goal

pub returns-clause-begins : goal.returns-clause-begins
returns-clause-begins g c =
    let a = c.append-number.ensures.added in
    prefix_appended c.args.seat.now.seen a.between ((a.part, g.E.Names.event c.args.event.now) ∷ []) c.append-number.new.self.seen a.seen

pub returns-clause-knows : goal.returns-clause-knows
returns-clause-knows g c f t =
    still_known g.M.Machine.rules g.J.Run.opening g.M.Machine.facts_stay c.args.seat.now.seen c.append-number.new.self.seen f (returns-clause-begins g c) c.lawful.ensures t

pub returns-clause-makes : goal.returns-clause-makes
returns-clause-makes g c s f at makes = known_of_part g.M.Machine.rules g.J.Run.opening c.append-number.new.self s f at makes
