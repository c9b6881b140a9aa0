use Rattle.std.specs.Prelude.{Err}
use Rattle.std.proofs.Common.{◌∙◌, arith, ap, inl, inr, sym}
use Rattle.std.proofs.lemmas.Result.{err_from_is_err_and, on_ok_weaker}
use Rattle.disk_model.proofs.Devices.{tell-then, later-then, rose-after}
use Rattle.volume_recovery.specs.VolumeNode.{volume_device}
use Rattle.volume_recovery.proofs.VolumesMade.{past-trails}
use Rattle.volume_recovery.proofs.volumes.format.make_others.Goals as goal

pub returns-clause-made : goal.returns-clause-made
returns-clause-made g c = λ tell.
    let trailed = tell-then g.D.Disk.tells c.args.bay.now c.format_trails.new.bay c.format_trails.ensures.keeps.tells tell in
    let filled = tell-then g.D.Disk.tells c.format_trails.new.bay c.make_volumes.new.bay c.make_volumes.ensures.keeps.tells trailed in
    let few = c.requires in
    on_ok_weaker c.clear_dumps.result
    (λ cleared. record {
      trails = λ n some le.
          let at = c.in_ok-format_trails.ensures.told tell n some le in
          (at.0, c.clear_dumps.ensures.others n (λ is. absurd (omega (arith, is.above, le, few.trails.few))) ∙ (c.make_volumes.ensures.others n (λ is. absurd (omega (arith, is.above, le, few.trails.few))) ∙ at.1), at.2);
      volumes = λ volume declared.
          let at = c.in_ok-make_volumes.ensures.made trailed volume declared in
          (at.0, c.clear_dumps.ensures.others (volume_device volume) (λ is. absurd (omega (arith, is.above, declared.below, few.volumes.few))) ∙ at.1, at.2);
      dumps = cleared;
    })
    (c.clear_dumps.ensures.cleared filled)

pub returns-clause-monitor : goal.returns-clause-monitor
returns-clause-monitor g c =
    c.clear_dumps.ensures.others 0 (λ is. absurd (omega (arith, is.above))) ∙ (c.make_volumes.ensures.others 0 (λ is. absurd (omega (arith, is.above))) ∙ c.format_trails.ensures.monitor)

pub returns-in_err-make_volumes-clause-monitor : goal.returns-in_err-make_volumes-clause-monitor
returns-in_err-make_volumes-clause-monitor g c = c.make_volumes.ensures.others 0 (λ is. absurd (omega (arith, is.above))) ∙ c.format_trails.ensures.monitor

pub returns-clause-others : goal.returns-clause-others
returns-clause-others g c = λ n other.
    c.clear_dumps.ensures.others n (λ is. other (inr (inr is)))
    ∙ (c.make_volumes.ensures.others n (λ is. other (inr (inl is))) ∙ c.format_trails.ensures.others n (past-trails c.args.config.now n other))

pub returns-in_err-format_trails-clause-others : goal.returns-in_err-format_trails-clause-others
returns-in_err-format_trails-clause-others g c = λ n other. c.format_trails.ensures.others n (past-trails c.args.config.now n other)

pub returns-in_err-make_volumes-clause-others : goal.returns-in_err-make_volumes-clause-others
returns-in_err-make_volumes-clause-others g c = λ n other. c.make_volumes.ensures.others n (λ is. other (inr (inl is))) ∙ c.format_trails.ensures.others n (past-trails c.args.config.now n other)

pub returns-in_err-format_trails-clause-cause : goal.returns-in_err-format_trails-clause-cause
returns-in_err-format_trails-clause-cause g c = λ number failed.
    let p = err_from_is_err_and c.from_residual.result c.from_residual.ensures.1 in
    let at = c.in_err-format_trails.ensures.cause number (ap (λ e. Err e) (sym p.2) ∙ (sym p.1 ∙ failed)) in (inl at.0, at.1)

pub returns-in_err-make_volumes-clause-cause : goal.returns-in_err-make_volumes-clause-cause
returns-in_err-make_volumes-clause-cause g c = λ number failed.
    let p = err_from_is_err_and c.from_residual-in_err-make_volumes.result c.from_residual-in_err-make_volumes.ensures.1 in
    let at = c.in_err-make_volumes.ensures.cause number (ap (λ e. Err e) (sym p.2) ∙ (sym p.1 ∙ failed)) in
    (inr (inl at.0), rose-after g.D.Disk.faults c.args.bay.now c.format_trails.new.bay c.make_volumes.new.bay number c.format_trails.ensures.keeps.later c.make_volumes.ensures.keeps.later at.1)

pub returns-clause-cause : goal.returns-clause-cause
returns-clause-cause g c = λ number failed.
    let at = c.clear_dumps.ensures.cause number failed in (
      inr (inr at.0),
      rose-after g.D.Disk.faults c.args.bay.now c.make_volumes.new.bay c.clear_dumps.new.bay number
          (later-then g.D.Disk.faults c.args.bay.now c.format_trails.new.bay c.make_volumes.new.bay c.format_trails.ensures.keeps.later c.make_volumes.ensures.keeps.later)
          c.clear_dumps.ensures.keeps.later at.1,
    )
