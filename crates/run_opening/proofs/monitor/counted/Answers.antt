use Rattle.std.proofs.Common.{◌≡◌, ◌+◌, ◌^◌, ◌<◌, Bool, true, false, refl, sym, subst, ap, ◌∙◌}
use Rattle.std.specs.Prelude.{MatchBool}
use Rattle.node_machine.specs.Law.{EndsWithStart}
use Rattle.trail_files.specs.Calls.{KeepsContent}
use Rattle.trail_files.specs.declared.damage.DamageKind.TheVariants.{NoStart}
use Rattle.trail_replay.specs.Rules.{monitor_formats}
use Rattle.run_outcomes.specs.Attaching.{misfit}
use Rattle.run_outcomes.specs.declared.outcome.PhaseError.{PhaseError}
use Rattle.run_opening.specs.Refusal.{IsOf, IsRefused, TellsAt}
use Rattle.run_opening.specs.declared.kept.MonitorKept.{MonitorKept}
use Rattle.run_opening.proofs.Refusals.{fault_failed, fault_place, fault_undamaged, if_err, if_ok, no_failure}
use Rattle.run_opening.proofs.monitor.counted.Goals as goal

flag_on : (b : Bool) (P Q : Type 0) → b ≡ true → MatchBool b P Q → P
flag_on true P Q is m = m
flag_on false P Q is m = absurd (cc)

flag_off : (b : Bool) (P Q : Type 0) → b ≡ false → MatchBool b P Q → Q
flag_off true P Q is m = absurd (cc)
flag_off false P Q is m = m

pub returns-in-Ok-clause-kept : goal.returns-in-Ok-clause-kept
returns-in-Ok-clause-kept g c =
    if_ok c.with_count.result _ _ (λ k is. subst (λ (m : MonitorKept _). KeepsContent g.D.Disk monitor_formats c.args.opened m.trail × (m.places + 2 ^ 20 < 2 ^ 64)) (sym is.1) (c.count_records.ensures.frame, c.in-Ok.ensures.short)) c.with_count.ensures.kept

pub returns-in-Ok-clause-list : goal.returns-in-Ok-clause-list
returns-in-Ok-clause-list g c = λ list tells reads.
    let told = c.in-Ok.ensures.counted list tells reads in
    if_ok c.with_count.result _ _ (λ k is. (ap (λ (m : MonitorKept _). m.places) is.1 ∙ told.0, flag_on c.in-Ok.count.ends _ _ is.0 told.1)) c.with_count.ensures.kept

pub returns-in-Ok-clause-refused : goal.returns-in-Ok-clause-refused
returns-in-Ok-clause-refused g c =
    if_err c.with_count.result _ _ (λ e is. subst (λ (x : _ × PhaseError). IsRefused g.D.Disk 0 c.args.opened.device x.0 x.1) (sym is.1) (record {
      reread = record { is_later = c.count_records.ensures.frame.keeps.device; same = c.count_records.ensures.frame.same };
      place = refl;
      failed = λ device told. absurd (no_failure device 0 (misfit NoStart) told);
    })) c.with_count.ensures.refused

pub returns-in-Ok-clause-damage : goal.returns-in-Ok-clause-damage
returns-in-Ok-clause-damage g c = λ list tells reads.
    let told = c.in-Ok.ensures.counted list tells reads in
    if_err c.with_count.result _ _ (λ e is. subst (λ (x : _ × PhaseError). TellsAt 0 (λ damage. (EndsWithStart c.args.epoch list → ⊥) × (damage ≡ misfit NoStart)) x.1) (sym is.1)
    (refl, (flag_off c.in-Ok.count.ends _ _ is.0 told.1, refl))) c.with_count.ensures.refused

pub returns-in-Err-clause-refused : goal.returns-in-Err-clause-refused
returns-in-Err-clause-refused g c =
    subst (λ d. IsRefused g.D.Disk 0 c.args.opened.device d c.refusal_by.result) (sym c.into_device.ensures) (record {
      reread = record { is_later = c.count_records.ensures.frame.keeps.device; same = c.count_records.ensures.frame.same };
      place = subst (IsOf 0) (sym c.refusal_by.ensures) (fault_place 0 c.in-Err.fault);
      failed = λ device is. c.in-Err.ensures.cause (fault_failed 0 device c.in-Err.fault (sym c.refusal_by.ensures ∙ is));
    })

pub returns-in-Err-clause-damage : goal.returns-in-Err-clause-damage
returns-in-Err-clause-damage g c = λ list tells reads.
    subst (TellsAt 0 (λ damage. (EndsWithStart c.args.epoch list → ⊥) × (damage ≡ misfit NoStart))) (sym c.refusal_by.ensures)
    (fault_undamaged 0 (λ damage. (EndsWithStart c.args.epoch list → ⊥) × (damage ≡ misfit NoStart)) c.in-Err.fault (c.in-Err.ensures.undamaged list tells reads))
