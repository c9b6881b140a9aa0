use Rattle.std.specs.Prelude.{MatchResult}
use Rattle.std.proofs.Common.{◌∙◌, sym, subst}
use Rattle.chronicle.specs.Seats.{HasNewlySeen}
use Rattle.node_machine.specs.declared.event.Event.TheVariants.{OfTrail}
use Rattle.node_machine.specs.declared.event.TrailEvent.TheVariants.{Failed}
use Rattle.node_machine.specs.Opening.{trail_part}
use Rattle.audit_writer.specs.Writes.{Writes, HasStopped, HasUpTo, HasWritten}
use Rattle.audit_writer.proofs.Tying.{tied_writes}
use Rattle.audit_writer.proofs.Written.{on_err}
use Rattle.audit_writer.proofs.queued.QueuedWriter.flush_to.Goals as goal

pub flush_to-requires : goal.flush_to-requires
flush_to-requires g c = record { has = subst (λ v. HasUpTo v.writer c.args.disc c.args.position) (sym c.self.view_is) c.requires.has }

pub invariant_of-self : goal.invariant_of-self
invariant_of-self g c =
    let w = c.self.inside in
    let e = c.flush_to.ensures.kept in
    (e.number ∙ c.self.invariant.0, tied_writes w.state c.flush_to.new.self g.D.Disk w.held w.end.pass e c.self.invariant.1)

pub returns-clause-kept : goal.returns-clause-kept
returns-clause-kept g c = subst (λ v. Writes g.D.Disk v.writer c.flush_to.new.self) c.self.view_is c.flush_to.ensures.kept

pub returns-clause-failed : goal.returns-clause-failed
returns-clause-failed g c = on_err c.flush_to.result (λ h. subst (λ n. HasNewlySeen (trail_part n) (OfTrail (Failed c.args.by)) c.args.caller.now c.flush_to.new.caller) c.self.invariant.0 h) c.flush_to.ensures.failed

pub returns-clause-events : goal.returns-clause-events
returns-clause-events g c =
    subst (λ v. MatchResult c.flush_to.result (λ _. HasWritten v.writer c.flush_to.new.self) (λ _. HasStopped c.args.by v.writer c.flush_to.new.self)) c.self.view_is c.flush_to.ensures.events
