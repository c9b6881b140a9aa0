use Rattle.std.proofs.Common.{◌+◌, inr, refl, sym, subst, ◌∙◌}
use Rattle.block_cache.specs.LabelDamage.{TellsAttach}
use Rattle.disk_model.specs.Held.{Held}
use Rattle.keyed_file.specs.Volume.{label_of}
use Rattle.trail_files.specs.declared.damage.DamageKind.TheVariants.{BadLabel}
use Rattle.run_outcomes.specs.Attaching.{misfit}
use Rattle.run_outcomes.specs.declared.outcome.PhaseError.{PhaseError}
use Rattle.run_opening.specs.Kept.{IsNextBehind, IsVolumeJudged, IsVolumeKept, IsVolumeRefused}
use Rattle.run_opening.specs.Refusal.{IsOf, IsRefused, TellsAt}
use Rattle.run_opening.proofs.Lows.{spells_low}
use Rattle.run_opening.proofs.Refusals.{if_err, if_ok, label_failed, label_place, label_tells, no_failure}
use Rattle.run_opening.proofs.volume.open_volume.Goals as goal

pub returns-in-Ok-clause-kept : goal.returns-in-Ok-clause-kept
returns-in-Ok-clause-kept g c =
    if_ok c.with_low.result _ _ (λ k is. subst (IsVolumeKept g.D.Disk c.args.config.now c.args.volume c.args.named c.args.device) (sym is.1)
    (record { is_later = c.in-Ok.ensures.keeps; same = c.in-Ok.ensures.same }, c.in-Ok.ensures.opened, (λ tells. c.in-Ok.ensures.stands tells))) c.with_low.ensures.kept

pub returns-in-Ok-clause-next : goal.returns-in-Ok-clause-next
returns-in-Ok-clause-next g c = if_ok c.with_low.result _ _ (λ k is. subst (IsNextBehind c.args.next) (sym is.1) is.0) c.with_low.ensures.kept

pub returns-in-Ok-clause-judged : goal.returns-in-Ok-clause-judged
returns-in-Ok-clause-judged g c = λ tells.
    let held : Held = g.D.Disk.held c.args.device in
    let low = spells_low g.D.Disk c.args.config.now c.args.volume c.args.device c.in-Ok.blocks (record { is_later = c.in-Ok.ensures.keeps; same = c.in-Ok.ensures.same }, c.in-Ok.ensures.opened, (λ told. c.in-Ok.ensures.stands told)) tells in
    if_ok c.with_low.result _ _ (λ k is. subst (IsVolumeJudged c.args.config.now c.args.volume c.args.next c.args.named held) (sym is.1) (low, is.0)) c.with_low.ensures.kept

pub returns-in-Ok-clause-refused : goal.returns-in-Ok-clause-refused
returns-in-Ok-clause-refused g c =
    if_err c.with_low.result _ _ (λ e is. subst (λ (x : _ × PhaseError). IsRefused g.D.Disk (4 + c.args.volume) c.args.device x.0 x.1) (sym is.1) (record {
      reread = record { is_later = c.in-Ok.ensures.keeps; same = c.in-Ok.ensures.same };
      place = refl;
      failed = λ device told. absurd (no_failure device (4 + c.args.volume) (misfit BadLabel) told);
    })) c.with_low.ensures.refused

pub returns-in-Ok-clause-damage : goal.returns-in-Ok-clause-damage
returns-in-Ok-clause-damage g c = λ tells.
    let held : Held = g.D.Disk.held c.args.device in
    let low = spells_low g.D.Disk c.args.config.now c.args.volume c.args.device c.in-Ok.blocks (record { is_later = c.in-Ok.ensures.keeps; same = c.in-Ok.ensures.same }, c.in-Ok.ensures.opened, (λ told. c.in-Ok.ensures.stands told)) tells in
    if_err c.with_low.result _ _ (λ e is. subst (λ (x : _ × PhaseError). TellsAt (4 + c.args.volume) (IsVolumeRefused c.args.config.now c.args.volume c.args.next c.args.named held) x.1) (sym is.1)
    (refl, inr (inr (c.in-Ok.blocks.label.low, low, is.0, refl)))) c.with_low.ensures.refused

pub returns-in-Err-clause-kept : goal.returns-in-Err-clause-kept
returns-in-Err-clause-kept g c =
    if_ok c.without_label.result _ _ (λ k is. subst (IsVolumeKept g.D.Disk c.args.config.now c.args.volume c.args.named c.args.device) (sym is.2)
    ((record { is_later = c.in-Err.ensures.keeps; same = c.in-Err.ensures.same }, (λ tells. subst (TellsAttach (label_of c.args.config.now c.args.volume 1) (g.D.Disk.held c.args.device)) is.0 (c.in-Err.ensures.fault tells))), is.1)) c.without_label.ensures.kept

pub returns-in-Err-clause-next : goal.returns-in-Err-clause-next
returns-in-Err-clause-next g c = if_ok c.without_label.result _ _ (λ k is. subst (IsNextBehind c.args.next) (sym is.2) tt) c.without_label.ensures.kept

pub returns-in-Err-clause-judged : goal.returns-in-Err-clause-judged
returns-in-Err-clause-judged g c = λ tells.
    let held : Held = g.D.Disk.held c.args.device in
    if_ok c.without_label.result _ _ (λ k is. subst (IsVolumeJudged c.args.config.now c.args.volume c.args.next c.args.named held) (sym is.2)
    (subst (TellsAttach (label_of c.args.config.now c.args.volume 1) held) is.0 (c.in-Err.ensures.fault tells), is.1)) c.without_label.ensures.kept

pub returns-in-Err-clause-refused : goal.returns-in-Err-clause-refused
returns-in-Err-clause-refused g c =
    if_err c.without_label.result _ _ (λ e is. subst (λ (d : _). IsRefused g.D.Disk (4 + c.args.volume) c.args.device d e.1) (sym is.0) (record {
      reread = record { is_later = c.in-Err.ensures.keeps; same = c.in-Err.ensures.same };
      place = subst (IsOf (4 + c.args.volume)) (sym is.2) (label_place (4 + c.args.volume) c.in-Err.fault);
      failed = λ device told. c.in-Err.ensures.cause (label_failed (4 + c.args.volume) device c.in-Err.fault (sym is.2 ∙ told));
    })) c.without_label.ensures.refused

pub returns-in-Err-clause-damage : goal.returns-in-Err-clause-damage
returns-in-Err-clause-damage g c = λ tells.
    let held : Held = g.D.Disk.held c.args.device in
    if_err c.without_label.result _ _ (λ e is. subst (TellsAt (4 + c.args.volume) (IsVolumeRefused c.args.config.now c.args.volume c.args.next c.args.named held)) (sym is.2)
    (label_tells c.args.config.now c.args.volume c.args.next c.args.named held c.in-Err.fault is.1 (c.in-Err.ensures.fault tells))) c.without_label.ensures.refused
