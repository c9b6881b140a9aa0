use Rattle.std.proofs.Common.{ap, ◌∙◌}
use Rattle.audit_writer.proofs.Tying.{tied_same}
use Rattle.audit_writer.proofs.queued.QueuedWriter.meet.Goals as goal

pub invariant_of-self : goal.invariant_of-self
invariant_of-self g c =
    let w = c.self.inside in
    let t = c.meet.ensures.told in (
      ap (λ p. p.number) t.part ∙ c.self.invariant.0,
      tied_same w.state c.meet.new.self w.held w.end.pass t.part t.queue c.self.invariant.1,
    )
