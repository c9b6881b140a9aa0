use Rattle.std.proofs.Common.{ap, sym, ◌∙◌, subst}
use Rattle.audit_writer.specs.Drains.{IsTied}
use Rattle.audit_writer.proofs.Tying.{none_of, tied_popped}
use Rattle.audit_writer.proofs.queued.QueuedWriter.pop.Goals as goal

pub invariant_of-self : goal.invariant_of-self
invariant_of-self g c =
    let w = c.self.inside in
    (c.self.invariant.0, subst (λ p. IsTied w.state w.held p) (sym c.turn.ensures.same.1) c.self.invariant.1)

pub invariant_of-self-in-Some : goal.invariant_of-self-in-Some
invariant_of-self-in-Some g c =
    let w = c.self.inside in
    let e = c.in-Some.ensures.popped in
    let none = none_of w.held (sym c.is_some.ensures ∙ c.if-is_some.false) in
    (c.self.invariant.0, tied_popped w.state c.in-Some.parcel w.end.pass c.pop.new.self.pass e.0 e.1 e.2 e.3 (subst (λ h. IsTied w.state h w.end.pass) none c.self.invariant.1))

pub invariant_of-self-in-None : goal.invariant_of-self-in-None
invariant_of-self-in-None g c =
    let w = c.self.inside in
    (c.self.invariant.0, subst (λ p. IsTied w.state w.held p) (sym c.in-None.ensures.popped) c.self.invariant.1)
