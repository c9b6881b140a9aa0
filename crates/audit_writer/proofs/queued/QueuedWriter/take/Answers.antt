use Rattle.std.specs.Prelude.{Some, None}
use Rattle.std.proofs.Common.{◌≡◌, ap, sym, ◌∙◌, subst}
use Rattle.audit_writer.specs.Drains.{IsTied}
use Rattle.audit_writer.specs.Handing.{Takes}
use Rattle.audit_writer.proofs.Tying.{tied_taken, takes_none}
use Rattle.audit_writer.proofs.queued.QueuedWriter.take.Goals as goal

pub invariant_of-self-in-Ok : goal.invariant_of-self-in-Ok
invariant_of-self-in-Ok g c =
    let w = c.self.inside in
    let next = c.take_parcel.new.self in
    let t = c.in-Ok.ensures.takes in
    let held : w.held ≡ Some c.in-Some.parcel = cc (c.take.ensures.value, c.in-Some.is) in
    let none : c.take.new.self ≡ None = cc (c.take.ensures.after) in (
      ap (λ p. p.number) t.part ∙ c.self.invariant.0,
      subst (λ h. IsTied next h w.end.pass) (sym none) (tied_taken w.state next c.in-Some.parcel w.end.pass t c.in-Ok.ensures.has (subst (λ h. IsTied w.state h w.end.pass) held c.self.invariant.1)),
    )

pub returns-in-Err-clause-takes : goal.returns-in-Err-clause-takes
returns-in-Err-clause-takes g c = subst (λ w. Takes c.args.self.now.writer w) (sym (c.in-Err.ensures.err.1 ∙ ap (λ v. v.writer) c.self.view_is)) (takes_none c.args.self.now.writer)
