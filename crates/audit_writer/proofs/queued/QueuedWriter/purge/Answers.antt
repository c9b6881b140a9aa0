use Rattle.std.proofs.Common.{◌∙◌}
use Rattle.audit_writer.proofs.Tying.{tied_writes}
use Rattle.audit_writer.proofs.queued.QueuedWriter.purge.Goals as goal

pub invariant_of-self : goal.invariant_of-self
invariant_of-self g c =
    let w = c.self.inside in
    let e = c.purge.ensures.kept.0 in (
      e.number ∙ c.self.invariant.0,
      tied_writes w.state c.purge.new.self g.D.Disk w.held w.end.pass e c.self.invariant.1,
    )
