use Rattle.disc_lock.proofs.Kept.{counted_still, ends_still, let_go_still, still_of}
use Rattle.disc_lock.proofs.numbered.DiscAt.release_undone.Goals as goal

pub invariant_of-self : goal.invariant_of-self
invariant_of-self g c =
    let old = c.args.self.now.state in
    let new = c.release_undone.new.self in
    let e = c.release_undone.ensures in
    let still = let_go_still g.D.Disk g.J.Run.opening old new c.args.tx.now.txn.tx c.release_undone.result e.released in
    record { is = still_of g.J.Run.opening g.J.NodeRun.found old new e.disc still c.args.self.now.is; ends = ends_still c.args.self.now.unended old.seat new.seat still c.args.self.now.ends; counted = counted_still c.args.self.now.share old.seat new.seat still c.args.self.now.counted }
