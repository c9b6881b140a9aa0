use Rattle.std.proofs.Common.{ap, sym, ◌∙◌, subst}
use Rattle.audit_writer.specs.Drains.{IsTied, at_queue}
use Rattle.audit_writer.proofs.Tying.{has_all_told, none_of}
use Rattle.audit_writer.proofs.queued.QueuedWriter.is_empty.Goals as goal

pub invariant_of-self : goal.invariant_of-self
invariant_of-self g c =
    let w = c.self.inside in
    (c.self.invariant.0, subst (λ e. IsTied w.state w.held e.pass) (sym c.is_empty.ensures.same) c.self.invariant.1)

pub returns-clause-same : goal.returns-clause-same
returns-clause-same g c = ap (λ e. at_queue c.self.inside.state e) c.is_empty.ensures.same ∙ c.self.view_is

pub returns-clause-all : goal.returns-clause-all
returns-clause-all g c = λ yes.
    let w = c.self.inside in
    has_all_told w.state c.is_empty.new.self w.held (none_of w.held (sym c.is_some.ensures ∙ c.if-is_some.false))
    (subst (λ e. IsTied w.state w.held e.pass) (sym c.is_empty.ensures.same) c.self.invariant.1) (c.is_empty.ensures.all yes)
