use Rattle.std.proofs.Common.{◌∙◌, subst}
use Rattle.audit_writer.specs.Drains.{Drains}
use Rattle.audit_writer.proofs.Tying.{tied_writes, drains_writes}
use Rattle.audit_writer.proofs.queued.QueuedWriter.land.Goals as goal

pub invariant_of-self : goal.invariant_of-self
invariant_of-self g c =
    let w = c.self.inside in
    let e = c.land_all.ensures.kept in (
      e.number ∙ c.self.invariant.0,
      tied_writes w.state c.land_all.new.self g.D.Disk w.held w.end.pass e c.self.invariant.1,
    )

pub returns-clause-kept : goal.returns-clause-kept
returns-clause-kept g c = subst (λ v. Drains g.D.Disk v.writer c.land_all.new.self) c.self.view_is (drains_writes c.self.inside.state c.land_all.new.self g.D.Disk c.land_all.ensures.kept)
