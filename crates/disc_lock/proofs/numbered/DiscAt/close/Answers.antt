use Rattle.disc_lock.proofs.Kept.{closed_still, counted_still, ends_still, still_of}
use Rattle.disc_lock.proofs.numbered.DiscAt.close.Goals as goal

pub invariant_of-self : goal.invariant_of-self
invariant_of-self g c =
    let old = c.args.self.now.state in
    let new = c.close.new.self in
    let e = c.close.ensures in
    let still = closed_still old new c.args.tx.now c.close.new.tx c.close.result e.events e.unchanged in
    record { is = still_of g.J.Run.opening g.J.NodeRun.found old new e.disc still c.args.self.now.is; ends = ends_still c.args.self.now.unended old.seat new.seat still c.args.self.now.ends; counted = counted_still c.args.self.now.share old.seat new.seat still c.args.self.now.counted }
