use Rattle.std.proofs.Common.{◌+◌, [], ◌∙◌, ⊎_elim, arith, ap, sym, subst, rules}
use Rattle.std.specs.Prelude.{Err}
use Rattle.std.proofs.lemmas.Result.{err_from_is_err_and}
use Rattle.std.proofs.lemmas.Bool.Decides.{leb_tells}
use Rattle.trail_files.specs.AuditRecord.{audit_format}
use Rattle.trail_files.specs.Trail.{Rests}
use Rattle.disk_model.specs.Devices.{DeviceAt}
use Rattle.trail_replay.specs.Rules.{rules_of}
use Rattle.disk_model.proofs.Devices.{are-later-then, tell-then, rose-after}
use Rattle.volume_recovery.proofs.format.format_trails.Goals as goal

pub loop-trail-preserved : goal.loop-trail-preserved
loop-trail-preserved g c = record {
  told = λ tell n some le.
      let now = c.loop-trail.trail + 1 in
      ⊎_elim
      (λ old. let at = c.loop-trail.invariant.told tell n some old.1 in (at.0, c.format_trail.ensures.others n (λ same. absurd (omega (arith, same, old.1))) ∙ at.1, at.2))
      (λ new. subst (λ m. DeviceAt (λ d. Rests (audit_format (rules_of c.args.config.now m)) (g.D.Disk.held d) []) c.format_trail.new.bay m) (omega (arith, le, new.1))
      (c.in_ok-format_trail.ensures.told (tell-then g.D.Disk.tells c.args.bay.now c.loop-trail.bay c.loop-trail.invariant.keeps.tells tell)))
      (leb_tells n c.loop-trail.trail);
  monitor = c.format_trail.ensures.others 0 (λ same. absurd (omega (arith, same))) ∙ c.loop-trail.invariant.monitor;
  others = λ n le.
      c.format_trail.ensures.others n (λ same. absurd (omega (arith, same, le, c.loop-trail.invariant.within, c.loop-trail.invariant.count, c.loop-trail-test.true)))
      ∙ c.loop-trail.invariant.others n le;
  keeps = are-later-then g.D.Disk g.met.D.Disk.same_on c.args.bay.now c.loop-trail.bay c.format_trail.new.bay c.loop-trail.invariant.keeps c.format_trail.ensures.keeps;
  within = search rules;
  count = c.loop-trail.invariant.count;
  few = c.loop-trail.invariant.few;
}

pub returns-in_err-format_trail-clause-cause : goal.returns-in_err-format_trail-clause-cause
returns-in_err-format_trail-clause-cause g c = λ number failed.
    let p = err_from_is_err_and c.from_residual.result c.from_residual.ensures.1 in
    let at = c.in_err-format_trail.ensures.cause number (ap (λ e. Err e) (sym p.2) ∙ (sym p.1 ∙ failed)) in (
      omega (arith, at.0, c.loop-trail.invariant.count, c.loop-trail-test.true),
      rose-after g.D.Disk.faults c.args.bay.now c.loop-trail.bay c.format_trail.new.bay number c.loop-trail.invariant.keeps.later c.format_trail.ensures.keeps.later at.1,
    )

pub returns-clause-told : goal.returns-clause-told
returns-clause-told g c = λ tell n some le. c.loop-trail.invariant.told tell n some (omega (arith, le, c.loop-trail.invariant.count, c.loop-trail-test.false))
