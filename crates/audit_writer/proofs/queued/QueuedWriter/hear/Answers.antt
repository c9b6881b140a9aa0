use Rattle.std.proofs.Common.{sym, subst, refl, inl}
use Rattle.audit_writer.specs.Drains.{IsTied}
use Rattle.audit_writer.specs.Parcels.{Has, one_disc, told_of}
use Rattle.audit_writer.proofs.Tying.{tied_heard}
use Rattle.audit_writer.proofs.queued.QueuedWriter.hear.Goals as goal

pub invariant_of-self : goal.invariant_of-self
invariant_of-self g c =
    let w = c.self.inside in
    let told = told_of (one_disc c.args.receipt.now.disc c.args.receipt.now.pushed) in (
      c.self.invariant.0,
      subst (λ e. IsTied w.state w.held e.pass) (sym c.hear.ensures.heard) (tied_heard w.state w.held w.end.pass told c.self.invariant.1),
    )

pub returns-clause-told : goal.returns-clause-told
returns-clause-told g c = subst (λ e. Has e.pass.told (c.args.receipt.now.disc, c.args.receipt.now.pushed)) (sym c.hear.ensures.heard) (inl refl)
