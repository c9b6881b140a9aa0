use Rattle.std.proofs.Common.{◌∙◌, ⊎_elim, arith, ap, sym, subst, rules}
use Rattle.std.specs.Prelude.{Err}
use Rattle.std.proofs.lemmas.Result.{err_from_is_err_and}
use Rattle.std.proofs.lemmas.Bool.Decides.{leb_tells}
use Rattle.disk_model.proofs.Devices.{are-later-then, tell-then, rose-after}
use Rattle.volume_recovery.specs.VolumeFormat.{HasNewVolume}
use Rattle.volume_recovery.specs.VolumeNode.{volume_device}
use Rattle.volume_recovery.proofs.volumes.format.make_volumes.Goals as goal

pub make_volume-requires-clause-declared : goal.make_volume-requires-clause-declared
make_volume-requires-clause-declared g c = record { above = omega arith; below = omega (arith, c.loop-volume.invariant.count, c.loop-volume-test.true) }

pub loop-volume-preserved : goal.loop-volume-preserved
loop-volume-preserved g c = record {
  made = λ tell n some le.
      ⊎_elim
      (λ old. let at = c.loop-volume.invariant.made tell n some old.1 in (at.0, c.make_volume.ensures.others (volume_device n) (λ same. absurd (omega (arith, same, old.1))) ∙ at.1, at.2))
      (λ new. subst (HasNewVolume g.D.Disk.held c.args.config.now c.make_volume.new.bay) (omega (arith, le, new.1))
      (c.in_ok-make_volume.ensures.made (tell-then g.D.Disk.tells c.args.bay.now c.loop-volume.bay c.loop-volume.invariant.keeps.tells tell)))
      (leb_tells n c.loop-volume.volume);
  others = λ n other.
      c.make_volume.ensures.others n (λ same. other (record { above = omega (arith, same); below = omega (arith, same, c.loop-volume.invariant.within, c.loop-volume.invariant.count, c.loop-volume-test.true) }))
      ∙ c.loop-volume.invariant.others n other;
  keeps = are-later-then g.D.Disk g.met.D.Disk.same_on c.args.bay.now c.loop-volume.bay c.make_volume.new.bay c.loop-volume.invariant.keeps c.make_volume.ensures.keeps;
  within = search rules;
  count = c.loop-volume.invariant.count;
  few = c.loop-volume.invariant.few;
}

pub returns-in_err-make_volume-clause-cause : goal.returns-in_err-make_volume-clause-cause
returns-in_err-make_volume-clause-cause g c = λ number failed.
    let p = err_from_is_err_and c.from_residual.result c.from_residual.ensures.1 in
    let at = c.in_err-make_volume.ensures.cause number (ap (λ e. Err e) (sym p.2) ∙ (sym p.1 ∙ failed)) in (
      record { above = omega (arith, at.0); below = omega (arith, at.0, c.loop-volume.invariant.count, c.loop-volume-test.true) },
      rose-after g.D.Disk.faults c.args.bay.now c.loop-volume.bay c.make_volume.new.bay number c.loop-volume.invariant.keeps.later c.make_volume.ensures.keeps.later at.1,
    )

pub returns-clause-made : goal.returns-clause-made
returns-clause-made g c = λ tell volume declared. c.loop-volume.invariant.made tell volume declared.above (omega (arith, declared.below, c.loop-volume.invariant.count, c.loop-volume-test.false))

pub returns-in_err-make_volume-clause-others : goal.returns-in_err-make_volume-clause-others
returns-in_err-make_volume-clause-others g c = λ n other.
    c.make_volume.ensures.others n (λ same. other (record { above = omega (arith, same); below = omega (arith, same, c.loop-volume.invariant.within, c.loop-volume.invariant.count, c.loop-volume-test.true) }))
    ∙ c.loop-volume.invariant.others n other
