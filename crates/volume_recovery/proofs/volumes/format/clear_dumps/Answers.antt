use Rattle.std.proofs.Common.{◌∙◌, ⊎_elim, arith, ap, sym, subst, rules}
use Rattle.std.specs.Prelude.{Err}
use Rattle.std.proofs.lemmas.Result.{err_from_is_err_and}
use Rattle.std.proofs.lemmas.Bool.Decides.{leb_tells}
use Rattle.disk_model.proofs.Devices.{are-later-then, tell-then, rose-after}
use Rattle.volume_recovery.specs.VolumeFormat.{HasNoDump}
use Rattle.volume_recovery.specs.VolumeNode.{dump_device}
use Rattle.volume_recovery.proofs.volumes.format.clear_dumps.Goals as goal

pub loop-volume-preserved : goal.loop-volume-preserved
loop-volume-preserved g c = record {
  cleared = λ tell n some le.
      ⊎_elim
      (λ old. let at = c.loop-volume.invariant.cleared tell n some old.1 in (at.0, c.clear_dump_of.ensures.others (dump_device n) (λ same. absurd (omega (arith, same, old.1))) ∙ at.1, at.2))
      (λ new. subst (HasNoDump g.D.Disk.held c.clear_dump_of.new.bay) (omega (arith, le, new.1))
      (c.in_ok-clear_dump_of.ensures.cleared (tell-then g.D.Disk.tells c.args.bay.now c.loop-volume.bay c.loop-volume.invariant.keeps.tells tell)))
      (leb_tells n c.loop-volume.volume);
  others = λ n other.
      c.clear_dump_of.ensures.others n (λ same. other (record { above = omega (arith, same); below = omega (arith, same, c.loop-volume.invariant.within, c.loop-volume.invariant.count, c.loop-volume-test.true) }))
      ∙ c.loop-volume.invariant.others n other;
  keeps = are-later-then g.D.Disk g.met.D.Disk.same_on c.args.bay.now c.loop-volume.bay c.clear_dump_of.new.bay c.loop-volume.invariant.keeps c.clear_dump_of.ensures.keeps;
  within = search rules;
  count = c.loop-volume.invariant.count;
  few = c.loop-volume.invariant.few;
}

pub returns-in_err-clear_dump_of-clause-cause : goal.returns-in_err-clear_dump_of-clause-cause
returns-in_err-clear_dump_of-clause-cause g c = λ number failed.
    let p = err_from_is_err_and c.from_residual.result c.from_residual.ensures.1 in
    let at = c.in_err-clear_dump_of.ensures.cause number (ap (λ e. Err e) (sym p.2) ∙ (sym p.1 ∙ failed)) in (
      record { above = omega (arith, at.0); below = omega (arith, at.0, c.loop-volume.invariant.count, c.loop-volume-test.true) },
      rose-after g.D.Disk.faults c.args.bay.now c.loop-volume.bay c.clear_dump_of.new.bay number c.loop-volume.invariant.keeps.later c.clear_dump_of.ensures.keeps.later at.1,
    )

pub returns-clause-cleared : goal.returns-clause-cleared
returns-clause-cleared g c = λ tell volume declared. c.loop-volume.invariant.cleared tell volume declared.above (omega (arith, declared.below, c.loop-volume.invariant.count, c.loop-volume-test.false))

pub returns-in_err-clear_dump_of-clause-others : goal.returns-in_err-clear_dump_of-clause-others
returns-in_err-clear_dump_of-clause-others g c = λ n other.
    c.clear_dump_of.ensures.others n (λ same. other (record { above = omega (arith, same); below = omega (arith, same, c.loop-volume.invariant.within, c.loop-volume.invariant.count, c.loop-volume-test.true) }))
    ∙ c.loop-volume.invariant.others n other
