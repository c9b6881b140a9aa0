use Rattle.disc_lock.proofs.Kept.{counted_still, drawn_still, ends_still, still_of}
use Rattle.disc_lock.proofs.numbered.DiscAt.draw.Goals as goal

pub invariant_of-self : goal.invariant_of-self
invariant_of-self g c =
    let old = c.args.self.now.state in
    let new = c.draw.new.self in
    let e = c.draw.ensures in
    let still = drawn_still old new g.D.Disk.faults c.args.by c.args.n.file c.args.n.number c.draw.result e.drawn e.refused in
    record { is = still_of g.J.Run.opening g.J.NodeRun.found old new e.disc still c.args.self.now.is; ends = ends_still c.args.self.now.unended old.seat new.seat still c.args.self.now.ends; counted = counted_still c.args.self.now.share old.seat new.seat still c.args.self.now.counted }
