use Rattle.std.proofs.Common.{◌+◌, ℕ, inr, refl, sym, subst, ◌∙◌}
use Rattle.std.specs.Prelude.{IfSome}
use Rattle.online_dump.specs.Found.{IsSealed}
use Rattle.trail_files.specs.declared.damage.DamageKind.TheVariants.{BadLabel}
use Rattle.run_outcomes.specs.Attaching.{misfit}
use Rattle.run_outcomes.specs.declared.outcome.PhaseError.{PhaseError}
use Rattle.run_opening.specs.Dumps.{IsDumpRefused}
use Rattle.run_opening.specs.Kept.{IsDumpOpened}
use Rattle.run_opening.specs.Refusal.{IsOf, IsRefused, TellsAt}
use Rattle.run_opening.proofs.DumpRefusals.{dump_failed, dump_place, dump_tells, start_spelled}
use Rattle.run_opening.proofs.Refusals.{if_err, if_ok, no_failure}
use Rattle.run_opening.proofs.dumps.open_dump.Goals as goal

pub returns-in-Ok-clause-kept : goal.returns-in-Ok-clause-kept
returns-in-Ok-clause-kept g c =
    if_ok c.with_start.result _ _ (λ k is. subst (IsDumpOpened g.D.Disk c.args.volume c.args.low c.args.device) (sym is.1) (
      record {
        reread = record { is_later = c.in-Ok.ensures.keeps; same = c.in-Ok.ensures.same };
        new = c.in-Ok.ensures.new;
        sealed = subst (λ (n : ℕ). IfSome c.in-Ok.file.found (IsSealed n)) c.in-Ok.ensures.new.0 c.lawful.ensures.found;
        found = λ tells. c.in-Ok.ensures.found tells;
        holds = λ tells rests. c.in-Ok.ensures.rests tells rests;
      },
      is.0,
    )) c.with_start.ensures.kept

pub returns-in-Ok-clause-refused : goal.returns-in-Ok-clause-refused
returns-in-Ok-clause-refused g c =
    if_err c.with_start.result _ _ (λ e is. subst (λ (x : _ × PhaseError). IsRefused g.D.Disk (12 + c.args.volume) c.args.device x.0 x.1) (sym is.1) (record {
      reread = record { is_later = c.in-Ok.ensures.keeps; same = c.in-Ok.ensures.same };
      place = refl;
      failed = λ device told. absurd (no_failure device (12 + c.args.volume) (misfit BadLabel) told);
    })) c.with_start.ensures.refused

pub returns-in-Ok-clause-damage : goal.returns-in-Ok-clause-damage
returns-in-Ok-clause-damage g c = λ tells.
    let sealed = subst (λ (n : ℕ). IfSome c.in-Ok.file.found (IsSealed n)) c.in-Ok.ensures.new.0 c.lawful.ensures.found in
    if_err c.with_start.result _ _ (λ e is. subst (λ (x : _ × PhaseError). TellsAt (12 + c.args.volume) (IsDumpRefused c.args.volume c.args.low (g.D.Disk.held c.args.device)) x.1) (sym is.1)
    (refl, inr (is.0.0, start_spelled c.args.volume is.0.0 (g.D.Disk.held c.args.device) c.in-Ok.file.found is.0.1 sealed (c.in-Ok.ensures.found tells), is.0.2, refl))) c.with_start.ensures.refused

pub returns-in-Err-clause-refused : goal.returns-in-Err-clause-refused
returns-in-Err-clause-refused g c = record {
  reread = record { is_later = c.in-Err.ensures.keeps; same = c.in-Err.ensures.same };
  place = subst (IsOf (12 + c.args.volume)) (sym c.dump_refusal.ensures) (dump_place (12 + c.args.volume) c.in-Err.fault);
  failed = λ device is. c.in-Err.ensures.cause (dump_failed (12 + c.args.volume) device c.in-Err.fault (sym c.dump_refusal.ensures ∙ is));
}

pub returns-in-Err-clause-damage : goal.returns-in-Err-clause-damage
returns-in-Err-clause-damage g c = λ tells.
    subst (TellsAt (12 + c.args.volume) (IsDumpRefused c.args.volume c.args.low (g.D.Disk.held c.args.device))) (sym c.dump_refusal.ensures)
    (dump_tells (12 + c.args.volume) c.args.volume c.args.low (g.D.Disk.held c.args.device) c.in-Err.fault (c.in-Err.ensures.fault tells))
