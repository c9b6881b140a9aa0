use Rattle.std.proofs.Common.{◌≡◌, ap, ◌∙◌, subst}
use Rattle.audit_writer.proofs.Tying.{takes_any, tied_takes}
use Rattle.std.specs.Prelude.{MatchResult}
use Rattle.audit_writer.specs.Handing.{Takes}
use Rattle.audit_writer.proofs.Written.{either_way}
use Rattle.audit_writer.proofs.queued.QueuedWriter.hand.Goals as goal

pub invariant_of-self : goal.invariant_of-self
invariant_of-self g c =
    let w = c.self.inside in
    let t = takes_any w.state c.hand.new.self c.hand.result (λ (e : (c.hand.new.self ≡ w.state) × (c.hand.new.disc ≡ c.args.disc.now)). e.0) c.hand.ensures.takes c.hand.ensures.err in (
      ap (λ p. p.number) t.part ∙ c.self.invariant.0,
      tied_takes w.state c.hand.new.self w.held w.end.pass t c.self.invariant.1,
    )

pub returns-clause-takes : goal.returns-clause-takes
returns-clause-takes g c = subst (λ v. MatchResult c.hand.result (λ _. Takes v.writer c.hand.new.self) (λ _. (c.hand.new.self ≡ v.writer) × (c.hand.new.disc ≡ c.args.disc.now))) c.self.view_is (either_way (Takes c.self.inside.state c.hand.new.self) ((c.hand.new.self ≡ c.self.inside.state) × (c.hand.new.disc ≡ c.args.disc.now)) c.hand.result c.hand.ensures.takes c.hand.ensures.err)
