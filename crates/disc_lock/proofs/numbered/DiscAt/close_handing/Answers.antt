use Rattle.disc_lock.proofs.Kept.{counted_still, ends_still, landed_still, still_of}
use Rattle.disc_lock.proofs.numbered.DiscAt.close_handing.Goals as goal

pub invariant_of-self : goal.invariant_of-self
invariant_of-self g c =
    let old = c.args.self.now.state in
    let new = c.close_handing.new.self in
    let e = c.close_handing.ensures in
    let still = landed_still old new c.args.tx.now.tx c.close_handing.result e.events in
    record { is = still_of g.J.Run.opening g.J.NodeRun.found old new e.disc still c.args.self.now.is; ends = ends_still c.args.self.now.unended old.seat new.seat still c.args.self.now.ends; counted = counted_still c.args.self.now.share old.seat new.seat still c.args.self.now.counted }
