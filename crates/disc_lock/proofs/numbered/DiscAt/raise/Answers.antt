use Rattle.disc_lock.proofs.Kept.{counted_still, ends_still, raised_still, still_of}
use Rattle.disc_lock.proofs.numbered.DiscAt.raise.Goals as goal

pub invariant_of-self : goal.invariant_of-self
invariant_of-self g c =
    let old = c.args.self.now.state in
    let new = c.raise.new.self in
    let e = c.raise.ensures in
    let still = raised_still old new c.args.number c.args.rest e.raised in
    record { is = still_of g.J.Run.opening g.J.NodeRun.found old new e.disc still c.args.self.now.is; ends = ends_still c.args.self.now.unended old.seat new.seat still c.args.self.now.ends; counted = counted_still c.args.self.now.share old.seat new.seat still c.args.self.now.counted }
