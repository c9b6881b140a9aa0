use Rattle.std.specs.Prelude.{None}
use Rattle.std.proofs.Common.{ap, sym, ◌∙◌, subst}
use Rattle.audit_writer.specs.Drains.{IsTied}
use Rattle.audit_writer.proofs.Tying.{tied_none}
use Rattle.audit_writer.proofs.queued.QueuedWriter.new.Goals as goal

pub invariant_of-result : goal.invariant_of-result
invariant_of-result g c =
    let same = c.make_room.ensures in
    (ap (λ v. v.seat.part.number) same ∙ c.requires.number, subst (λ v. IsTied v None c.args.end.pass) (sym same) (tied_none c.args.state c.args.end.pass c.requires.none))
