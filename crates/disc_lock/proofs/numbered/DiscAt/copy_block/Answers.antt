use Rattle.disc_lock.proofs.Kept.{copied_still, counted_still, ends_still, still_of}
use Rattle.disc_lock.proofs.numbered.DiscAt.copy_block.Goals as goal

pub invariant_of-self : goal.invariant_of-self
invariant_of-self g c =
    let old = c.args.self.now.state in
    let new = c.copy_block.new.self in
    let e = c.copy_block.ensures in
    let still = copied_still old new g.D.Disk c.args.item c.args.n.file c.args.n.number c.copy_block.result e.drawn e.refused in
    record { is = still_of g.J.Run.opening g.J.NodeRun.found old new e.disc still c.args.self.now.is; ends = ends_still c.args.self.now.unended old.seat new.seat still c.args.self.now.ends; counted = counted_still c.args.self.now.share old.seat new.seat still c.args.self.now.counted }
