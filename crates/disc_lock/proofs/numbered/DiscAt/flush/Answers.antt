use Rattle.disc_lock.proofs.Kept.{counted_grown, ends_grown, grown_of}
use Rattle.disc_lock.proofs.numbered.DiscAt.flush.Goals as goal

pub invariant_of-self : goal.invariant_of-self
invariant_of-self g c =
    let old = c.args.self.now.state in
    let new = c.flush.new.self in
    let e = c.flush.ensures in
    record { is = grown_of g.J.Run.opening g.J.NodeRun.found old new e.part e.seats.disc_grown c.args.self.now.is; ends = ends_grown c.args.self.now.unended old.seat new.seat e.seats.disc_grown c.args.self.now.ends; counted = counted_grown c.args.self.now.share old.seat new.seat e.seats.disc_grown c.args.self.now.counted }
