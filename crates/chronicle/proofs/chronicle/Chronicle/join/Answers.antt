use Rattle.chronicle.proofs.Facts.{learned, still_known}
use Rattle.chronicle.proofs.chronicle.Chronicle.join.Goals as goal

pub returns-clause-learned : goal.returns-clause-learned
returns-clause-learned g c =
    learned g.M.Machine.rules g.J.Run.opening g.M.Machine.facts_stay c.args.seat.now c.join.new.self c.join.ensures.grown c.lawful.ensures

pub returns-clause-told : goal.returns-clause-told
returns-clause-told g c f t =
    still_known g.M.Machine.rules g.J.Run.opening g.M.Machine.facts_stay c.args.note.seen c.join.new.self.seen f c.join.ensures.union.second c.lawful.ensures t
