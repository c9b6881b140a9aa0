use Rattle.std.proofs.Common.{sym, subst, ◌∙◌}
use Rattle.run_opening.specs.Refusal.{IsOf, IsRefused, TellsAt}
use Rattle.run_opening.proofs.Refusals.{fault_failed, fault_place, fault_undamaged}
use Rattle.run_opening.proofs.audit.with_seen.Goals as goal

pub returns-in-Err-clause-refused : goal.returns-in-Err-clause-refused
returns-in-Err-clause-refused g c =
    subst (λ d. IsRefused g.D.Disk c.args.number c.args.opened.device d c.refusal_by.result) (sym c.into_device.ensures) (record {
      reread = record { is_later = c.see_records.ensures.frame.keeps.device; same = c.see_records.ensures.frame.same };
      place = subst (IsOf c.args.number) (sym c.refusal_by.ensures) (fault_place c.args.number c.in-Err.fault);
      failed = λ device is. c.in-Err.ensures.cause (fault_failed c.args.number device c.in-Err.fault (sym c.refusal_by.ensures ∙ is));
    })

pub returns-in-Err-clause-undamaged : goal.returns-in-Err-clause-undamaged
returns-in-Err-clause-undamaged g c = λ audit tells reads.
    subst (TellsAt c.args.number (λ damage. ⊥)) (sym c.refusal_by.ensures) (fault_undamaged c.args.number (λ damage. ⊥) c.in-Err.fault (c.in-Err.ensures.undamaged audit tells reads))
