use Rattle.std.proofs.Common.{◌≡◌, [], sym, ◌∙◌, subst}
use Rattle.node_machine.specs.Trail.{offered}
use Rattle.audit_writer.specs.Writes.{HasWritten}
use Rattle.audit_writer.proofs.Queues.{none_of}
use Rattle.audit_writer.proofs.Written.{on_ok, on_err, written_then, stopped_then, written_none}
use Rattle.audit_writer.proofs.writer.WriterState.land_next.Goals as goal
use Rattle.audit_writer.proofs.writer.WriterState.land_next.Goals.{then-self-eq0+in_ok-offer, else-self-eq0}

pub offer-requires-clause-none : goal.offer-requires-clause-none
offer-requires-clause-none g c = subst (λ v. offered v.seat.part.events ≡ []) c.self.view_is (none_of (offered c.self.inside.seat.part.events) (sym c.self.invariant.1 ∙ c.if-self-eq0.true))

pub returns-clause-events : goal.returns-clause-events
returns-clause-events g c =
    let first : HasWritten c.args.self.now c.if-self-eq0.self = elim c.if-self-eq0.branch [
      | then-self-eq0+in_ok-offer w ↦ subst (λ v. HasWritten c.args.self.now v) (sym w.self-is) w.in_ok-offer.ensures.events
      | else-self-eq0 w ↦ subst (λ v. HasWritten c.args.self.now v) (sym w.self-is) (written_none c.args.self.now)
    ] in
    on_ok c.land.result (λ h. written_then c.args.self.now c.if-self-eq0.self c.land.new.self first h) c.land.ensures.events

pub returns-clause-events_err : goal.returns-clause-events_err
returns-clause-events_err g c =
    let first : HasWritten c.args.self.now c.if-self-eq0.self = elim c.if-self-eq0.branch [
      | then-self-eq0+in_ok-offer w ↦ subst (λ v. HasWritten c.args.self.now v) (sym w.self-is) w.in_ok-offer.ensures.events
      | else-self-eq0 w ↦ subst (λ v. HasWritten c.args.self.now v) (sym w.self-is) (written_none c.args.self.now)
    ] in
    on_err c.land.result (λ h. stopped_then c.args.by c.args.self.now c.if-self-eq0.self c.land.new.self first h) c.land.ensures.events_err
