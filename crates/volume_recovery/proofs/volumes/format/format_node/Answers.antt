use Rattle.std.specs.Prelude.{Err}
use Rattle.std.proofs.Common.{◌∙◌, arith, ap, inl, inr, sym}
use Rattle.std.proofs.lemmas.Result.{err_from_is_err_and, on_ok_weaker}
use Rattle.disk_model.proofs.Devices.{tell-then, later-then, rose-after}
use Rattle.trail_replay.specs.Rules.{rules_of}
use Rattle.volume_recovery.proofs.Stops.{on-err-any}
use Rattle.volume_recovery.proofs.VolumesMade.{made-images, made-kept, made-rests, past-monitor}
use Rattle.volume_recovery.proofs.VolumeSettled.{formatted}
use Rattle.volume_recovery.proofs.volumes.format.format_node.Goals as goal

pub returns-in_err-clear_monitor-clause-cause : goal.returns-in_err-clear_monitor-clause-cause
returns-in_err-clear_monitor-clause-cause g c = λ number failed.
    let p = err_from_is_err_and c.from_residual.result c.from_residual.ensures.1 in
    let at = c.in_err-clear_monitor.ensures.cause number (ap (λ e. Err e) (sym p.2) ∙ (sym p.1 ∙ failed)) in (inl (omega (arith, at.0)), at.1)

pub returns-in_err-make_others-clause-cause : goal.returns-in_err-make_others-clause-cause
returns-in_err-make_others-clause-cause g c = λ number failed.
    let p = err_from_is_err_and c.from_residual-in_err-make_others.result c.from_residual-in_err-make_others.ensures.1 in
    let at = c.in_err-make_others.ensures.cause number (ap (λ e. Err e) (sym p.2) ∙ (sym p.1 ∙ failed)) in
    (at.0, rose-after g.D.Disk.faults c.args.bay.now c.clear_monitor.new.bay c.make_others.new.bay number c.clear_monitor.ensures.keeps.later c.make_others.ensures.keeps.later at.1)

pub returns-clause-cause : goal.returns-clause-cause
returns-clause-cause g c = λ number failed.
    let at = c.begin_monitor.ensures.cause number failed in (
      inl (omega (arith, at.0)),
      rose-after g.D.Disk.faults c.args.bay.now c.make_others.new.bay c.begin_monitor.new.bay number
          (later-then g.D.Disk.faults c.args.bay.now c.clear_monitor.new.bay c.make_others.new.bay c.clear_monitor.ensures.keeps.later c.make_others.ensures.keeps.later)
          c.begin_monitor.ensures.keeps.later at.1,
    )

pub returns-clause-stands : goal.returns-clause-stands
returns-clause-stands g c = λ tell.
    let cleared = tell-then g.D.Disk.tells c.args.bay.now c.clear_monitor.new.bay c.clear_monitor.ensures.keeps.tells tell in
    let filled = tell-then g.D.Disk.tells c.clear_monitor.new.bay c.make_others.new.bay c.make_others.ensures.keeps.tells cleared in
    let made = made-kept g.D.Disk.held c.args.config.now c.make_others.new.bay c.begin_monitor.new.bay c.begin_monitor.ensures.others (c.in_ok-make_others.ensures.made cleared) in
    on_ok_weaker c.begin_monitor.result
    (λ monitor images are. formatted c.args.config.now images
    (made-images g.D.Disk.held c.args.config.now c.begin_monitor.new.bay made monitor
    c.at_rest.ensures.image (c.every_image-2.ensures.resting (rules_of c.args.config.now 0)) c.every_image.ensures.resting images are))
    (c.begin_monitor.ensures.told filled)

pub returns-clause-rests : goal.returns-clause-rests
returns-clause-rests g c = λ tell.
    let cleared = tell-then g.D.Disk.tells c.args.bay.now c.clear_monitor.new.bay c.clear_monitor.ensures.keeps.tells tell in
    let filled = tell-then g.D.Disk.tells c.clear_monitor.new.bay c.make_others.new.bay c.make_others.ensures.keeps.tells cleared in
    let made = made-kept g.D.Disk.held c.args.config.now c.make_others.new.bay c.begin_monitor.new.bay c.begin_monitor.ensures.others (c.in_ok-make_others.ensures.made cleared) in
    on_ok_weaker c.begin_monitor.result
    (λ monitor now are. made-rests g.D.Disk.held c.args.config.now c.begin_monitor.new.bay made monitor now are c.one_spelling.ensures.spelled)
    (c.begin_monitor.ensures.told filled)

pub returns-clause-made : goal.returns-clause-made
returns-clause-made g c = λ tell.
    let cleared = tell-then g.D.Disk.tells c.args.bay.now c.clear_monitor.new.bay c.clear_monitor.ensures.keeps.tells tell in
    let filled = tell-then g.D.Disk.tells c.clear_monitor.new.bay c.make_others.new.bay c.make_others.ensures.keeps.tells cleared in
    on_ok_weaker c.begin_monitor.result
    (λ monitor. made-kept g.D.Disk.held c.args.config.now c.make_others.new.bay c.begin_monitor.new.bay c.begin_monitor.ensures.others (c.in_ok-make_others.ensures.made cleared))
    (c.begin_monitor.ensures.told filled)

pub returns-in_err-make_others-clause-first : goal.returns-in_err-make_others-clause-first
returns-in_err-make_others-clause-first g c = λ tell.
    let gone = c.in_ok-clear_monitor.ensures.gone tell in
    on-err-any c.from_residual-in_err-make_others.result (inr (inl (gone.0, c.make_others.ensures.monitor ∙ gone.1, gone.2)))

pub returns-clause-first : goal.returns-clause-first
returns-clause-first g c = λ tell.
    let cleared = tell-then g.D.Disk.tells c.args.bay.now c.clear_monitor.new.bay c.clear_monitor.ensures.keeps.tells tell in
    on-err-any c.begin_monitor.result
    (inr (inr (made-kept g.D.Disk.held c.args.config.now c.make_others.new.bay c.begin_monitor.new.bay c.begin_monitor.ensures.others (c.in_ok-make_others.ensures.made cleared))))

pub returns-in_err-clear_monitor-clause-others : goal.returns-in_err-clear_monitor-clause-others
returns-in_err-clear_monitor-clause-others g c = λ n other. c.clear_monitor.ensures.others n (past-monitor c.args.config.now n other)

pub returns-in_err-make_others-clause-others : goal.returns-in_err-make_others-clause-others
returns-in_err-make_others-clause-others g c = λ n other. c.make_others.ensures.others n other ∙ c.clear_monitor.ensures.others n (past-monitor c.args.config.now n other)

pub returns-clause-others : goal.returns-clause-others
returns-clause-others g c = λ n other.
    c.begin_monitor.ensures.others n (past-monitor c.args.config.now n other) ∙ (c.make_others.ensures.others n other ∙ c.clear_monitor.ensures.others n (past-monitor c.args.config.now n other))
