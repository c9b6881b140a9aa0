use Rattle.std.proofs.Common.{[], ◌∷◌, inl, inr, refl, ap, ◌∙◌}
use Rattle.tmf_lines.specs.declared.line.Line.TheVariants.{Removed, LoseFailed}
use Rattle.tmf_cli.specs.OutputLaw.{LeavesLost}
use Rattle.tmf_cli.proofs.VolumeLoss.{lost-broken, lost-done, lost-others, unlost-done}
use Rattle.volume_recovery.specs.VolumeNode.{volume_device}
use Rattle.tmf_cli.proofs.act.act_lose.Goals as goal

pub returns-in_err-removed-clause-broken : goal.returns-in_err-removed-clause-broken
returns-in_err-removed-clause-broken g c = λ candidates tell knows.
    lost-broken g.D.Disk.held g.D.Disk.faults c.args.config.now c.args.volume c.args.bay.now c.args.state.now candidates c.from_residual.result knows

pub returns-in_err-failed-clause-broken : goal.returns-in_err-failed-clause-broken
returns-in_err-failed-clause-broken g c = λ candidates tell knows.
    lost-broken g.D.Disk.held g.D.Disk.faults c.args.config.now c.args.volume c.args.bay.now c.args.state.now candidates c.from_residual-in_err-failed.result knows

pub returns-in-Ok-clause-done : goal.returns-in-Ok-clause-done
returns-in-Ok-clause-done g c = λ candidates tell knows.
    let leaves : LeavesLost g.D.Disk.held c.args.volume c.args.bay.now c.lose.new.bay = record { others = c.lose.ensures.others; every = λ left are. c.lose.ensures.every left tell are } in
    lost-done g.D.Disk.held c.lost_law.ensures c.args.config.now c.args.volume c.requires.valid c.requires.declared c.args.bay.now c.lose.new.bay leaves g.D.Disk.faults c.args.state.now c.down.result candidates knows c.down.ensures
    (c.in-Ok.ensures.emptied tell) c.in_ok-removed.removed.items (c.in_ok-removed.ensures ∙ ap (λ name. Removed name ∷ []) c.volume_name-name.ensures)

pub returns-in-Err-clause-done : goal.returns-in-Err-clause-done
returns-in-Err-clause-done g c = λ candidates tell knows.
    let leaves : LeavesLost g.D.Disk.held c.args.volume c.args.bay.now c.lose.new.bay = record { others = c.lose.ensures.others; every = λ left are. c.lose.ensures.every left tell are } in
    unlost-done g.D.Disk.held c.lost_law.ensures c.args.config.now c.args.volume c.requires.valid c.requires.declared c.args.bay.now c.lose.new.bay leaves g.D.Disk.faults c.args.state.now c.down.result candidates knows c.down.ensures
    c.in-Err.ensures.cause c.in_ok-failed.failed.items (c.in_ok-failed.ensures ∙ ap (λ name. LoseFailed name ∷ []) c.volume_name-name.ensures)

pub returns-in-Ok-clause-others : goal.returns-in-Ok-clause-others
returns-in-Ok-clause-others g c = lost-others c.args.config.now c.args.volume c.args.bay.now c.lose.new.bay c.requires.declared c.lose.ensures.others

pub returns-in-Err-clause-others : goal.returns-in-Err-clause-others
returns-in-Err-clause-others g c = lost-others c.args.config.now c.args.volume c.args.bay.now c.lose.new.bay c.requires.declared c.lose.ensures.others

pub returns-in-Ok-clause-prints : goal.returns-in-Ok-clause-prints
returns-in-Ok-clause-prints g c = (c.down.ensures, c.lose.ensures.others, inl (c.in_ok-removed.ensures ∙ ap (λ name. Removed name ∷ []) c.volume_name-name.ensures))

pub returns-in-Err-clause-prints : goal.returns-in-Err-clause-prints
returns-in-Err-clause-prints g c = (c.down.ensures, c.lose.ensures.others, inr (volume_device c.args.volume, (refl, c.in-Err.ensures.cause), c.in_ok-failed.ensures ∙ ap (λ name. LoseFailed name ∷ []) c.volume_name-name.ensures))
