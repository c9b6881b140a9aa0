use Rattle.std.proofs.Common.{◌∙◌, sym, subst}
use Rattle.audit_writer.specs.Writes.{HasUpTo}
use Rattle.audit_writer.proofs.queued.QueuedWriter.has.Goals as goal

pub has-requires-clause-own : goal.has-requires-clause-own
has-requires-clause-own g c = c.requires.own ∙ sym c.self.invariant.0

pub returns : goal.returns
returns g c = λ yes. subst (λ v. HasUpTo v.writer c.args.disc c.args.position) c.self.view_is (c.has.ensures.yes yes)
