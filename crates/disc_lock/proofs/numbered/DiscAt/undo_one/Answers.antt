use Rattle.disc_lock.proofs.Kept.{counted_still, ends_still, still_of, undone_still}
use Rattle.disc_lock.proofs.numbered.DiscAt.undo_one.Goals as goal

pub invariant_of-self : goal.invariant_of-self
invariant_of-self g c =
    let old = c.args.self.now.state in
    let new = c.undo_one.new.self in
    let e = c.undo_one.ensures in
    let still = undone_still g.D.Disk old new c.args.tx.now.tx c.undo_one.result e.undone in
    record { is = still_of g.J.Run.opening g.J.NodeRun.found old new e.disc still c.args.self.now.is; ends = ends_still c.args.self.now.unended old.seat new.seat still c.args.self.now.ends; counted = counted_still c.args.self.now.share old.seat new.seat still c.args.self.now.counted }
