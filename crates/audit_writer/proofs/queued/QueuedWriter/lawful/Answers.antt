use Rattle.std.specs.Prelude.{Some}
use Rattle.std.proofs.Common.{ap, sym, ◌∙◌, subst}
use Rattle.node_machine.specs.Opening.{trail_part}
use Rattle.audit_writer.specs.Writer.{IsWriter}
use Rattle.audit_writer.proofs.queued.QueuedWriter.lawful.Goals as goal

pub returns-clause-lawful : goal.returns-clause-lawful
returns-clause-lawful g c = subst (λ v. IsWriter g.D.Disk g.J.Run.opening _ _ _ _ _ v.writer) c.self.view_is c.lawful.ensures

pub returns-clause-number : goal.returns-clause-number
returns-clause-number g c = ap (λ v. v.writer.seat.part.number) (sym c.self.view_is) ∙ c.self.invariant.0

pub returns-clause-seat : goal.returns-clause-seat
returns-clause-seat g c = ap (λ v. v.writer.seat.sight.part) (sym c.self.view_is) ∙ c.lawful.ensures.at.seat ∙ ap (λ n. Some (trail_part n)) c.self.invariant.0
