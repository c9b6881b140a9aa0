use Rattle.std.proofs.Common.{refl, subst}
use Rattle.audit_writer.specs.Writer.{AreShown}
use Rattle.audit_writer.proofs.Shown.{shown}
use Rattle.audit_writer.proofs.writer.WriterState.into_parts.Goals as goal

pub returns-clause-shown : goal.returns-clause-shown
returns-clause-shown g c =
    let w = c.self.inside in
    subst (λ v. AreShown g.D.Disk (g.J.NodeRun.premise v.seat.part.number) v) c.self.view_is (λ premise image leaves.
    (let s = c.self.invariant.2.belong.stands premise in
    shown g.D.Disk w.trail w.seat.part _ image s (c.every_image.ensures.images w.trail s.content image s.holds s.tells leaves refl refl)))
