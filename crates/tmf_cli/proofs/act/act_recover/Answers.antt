use Rattle.std.specs.Prelude.{Err}
use Rattle.std.proofs.Common.{rules, ◌≡◌, [], ◌∷◌, inl, refl, ap, ◌∙◌}
use Rattle.tmf_model.specs.declared.script.Action.TheVariants.{Recover as RecoverAction}
use Rattle.tmf_lines.specs.Report.{recovered_lines}
use Rattle.tmf_cli.specs.BetweenActions.{HasDone, node_of}
use Rattle.tmf_cli.proofs.Acts.{Texts, broken-recovery, untouched-stopped, whole-stopped, recovered-done, stopped, refused-done, ok-so}
use Rattle.tmf_cli.proofs.Countdowns.{leaves-same}
use Rattle.tmf_cli.proofs.Resting.{leaves-ready}
use Rattle.tmf_cli.proofs.Undamaged.{undamaged-stand}
use Rattle.tmf_lines.specs.declared.line.ActionKind.TheVariants as asked
use Rattle.tmf_lines.specs.declared.line.Line.TheVariants.{NotUp}
use Rattle.tmf_cli.specs.AnyDevices.{Prints}
use Rattle.tmf_cli.proofs.AnyDevices.{recovered-prints, refused-prints}
use Rattle.tmf_cli.proofs.act.act_recover.Goals as goal

pub returns-then-not-state-clause-broken : goal.returns-then-not-state-clause-broken
returns-then-not-state-clause-broken g c = λ candidates tell knows.
    broken-recovery g.D.Disk.held g.D.Disk.faults c.args.config.now c.args.state.now c.args.bay.now c.args.bay.now c.args.kill candidates c.one_line.result
    (untouched-stopped g.D.Disk.held c.args.config.now c.args.bay.now candidates knows.stands)

pub returns-in_err-lines-in-Ok-clause-broken : goal.returns-in_err-lines-in-Ok-clause-broken
returns-in_err-lines-in-Ok-clause-broken g c = λ candidates tell knows.
    let texts : Texts = record { monitor = c.one_spelling-2.ensures.spelled; audit = c.one_spelling.ensures.spelled; monitor_undamaged = c.one_spelling-2.ensures.undamaged; audit_undamaged = c.one_spelling.ensures.undamaged } in
    let answers = c.in-Ok.ensures.recovered tell in
    broken-recovery g.D.Disk.held g.D.Disk.faults c.args.config.now c.args.state.now c.args.bay.now c.recover_within.new.bay c.args.kill candidates c.from_residual.result
    (whole-stopped g.D.Disk.held c.args.config.now c.args.bay.now c.recover_within.new.bay texts answers.0 c.in-Ok.recovered answers.2 candidates answers.1 knows.stands)

pub returns-in_err-line-in-Err-clause-broken : goal.returns-in_err-line-in-Err-clause-broken
returns-in_err-line-in-Err-clause-broken g c = λ candidates tell knows.
    let texts : Texts = record { monitor = c.one_spelling-2.ensures.spelled; audit = c.one_spelling.ensures.spelled; monitor_undamaged = c.one_spelling-2.ensures.undamaged; audit_undamaged = c.one_spelling.ensures.undamaged } in
    let answers = c.in-Err.ensures.recovered tell in
    broken-recovery g.D.Disk.held g.D.Disk.faults c.args.config.now c.args.state.now c.args.bay.now c.recover_within.new.bay c.args.kill candidates c.from_residual-in_err-line-in-Err.result
    (stopped g.D.Disk.held c.args.config.now c.args.bay.now c.recover_within.new.bay c.in-Err.error texts answers.0 c.args.state.now candidates answers.1 answers.2 knows.stands).stands

pub returns-in_ok-lines-in-Ok-clause-done : goal.returns-in_ok-lines-in-Ok-clause-done
returns-in_ok-lines-in-Ok-clause-done g c = λ candidates tell knows.
    let texts : Texts = record { monitor = c.one_spelling-2.ensures.spelled; audit = c.one_spelling.ensures.spelled; monitor_undamaged = c.one_spelling-2.ensures.undamaged; audit_undamaged = c.one_spelling.ensures.undamaged } in
    let answers = c.in-Ok.ensures.recovered tell in
    let found = c.in-Ok.recovered in
    recovered-done g.D.Disk.held g.D.Disk.faults c.args.config.now c.args.bay.now c.recover_within.new.bay c.args.state.now c.recovered.result c.args.kill candidates (search rules) c.requires.valid c.recover_within.ensures.keeps.counts.falls texts answers.0 found c.in_ok-lines-in-Ok.lines.items (search rules) answers.1 answers.2
    (leaves-ready g.D.Disk.held c.args.config.now answers.0 c.recover_within.new.bay found c.requires.valid c.in-Ok.ensures.begun answers.2.ok) knows
    (c.in_ok-lines-in-Ok.ensures ∙ ap (λ rs. recovered_lines c.args.config.now c.args.state.now.printed rs c.as_slice-lost.result.now found.epoch) c.as_slice-records.ensures
    ∙ ap (λ ls. recovered_lines c.args.config.now c.args.state.now.printed found.records ls found.epoch) c.as_slice-lost.ensures)
    (search rules)

pub returns-in_ok-line-in-Err-clause-done : goal.returns-in_ok-line-in-Err-clause-done
returns-in_ok-line-in-Err-clause-done g c = λ candidates tell knows.
    let texts : Texts = record { monitor = c.one_spelling-2.ensures.spelled; audit = c.one_spelling.ensures.spelled; monitor_undamaged = c.one_spelling-2.ensures.undamaged; audit_undamaged = c.one_spelling.ensures.undamaged } in
    let answers = c.in-Err.ensures.recovered tell in
    ok-so (λ lines. lines.items ≡ c.in_ok-line-in-Err.line ∷ [])
    (λ lines. HasDone g.D.Disk.held g.D.Disk.faults c.args.config.now (RecoverAction c.args.kill) (node_of c.args.state.now candidates) c.args.bay.now lines.items c.down.result c.recover_within.new.bay)
    c.one_line-in-Err.result c.one_line-in-Err.ensures
    (λ lines one. refused-done g.D.Disk.held g.D.Disk.faults c.args.config.now c.args.bay.now c.recover_within.new.bay c.args.state.now c.down.result c.args.kill candidates (search rules) (undamaged-stand c.args.config.now c.requires.valid c.spelled_volume_law.ensures.fine texts) texts answers.0 c.in-Err.error
    c.in_ok-line-in-Err.line lines.items answers.1 answers.2 knows c.in_ok-line-in-Err.ensures (λ number e. c.recover_within.ensures.cause number (c.in-Err.is ∙ ap Err e)) one c.down.ensures)

pub returns-in_ok-line-in-Err-clause-broken : goal.returns-in_ok-line-in-Err-clause-broken
returns-in_ok-line-in-Err-clause-broken g c = λ candidates tell knows.
    let texts : Texts = record { monitor = c.one_spelling-2.ensures.spelled; audit = c.one_spelling.ensures.spelled; monitor_undamaged = c.one_spelling-2.ensures.undamaged; audit_undamaged = c.one_spelling.ensures.undamaged } in
    let answers = c.in-Err.ensures.recovered tell in
    broken-recovery g.D.Disk.held g.D.Disk.faults c.args.config.now c.args.state.now c.args.bay.now c.recover_within.new.bay c.args.kill candidates c.one_line-in-Err.result
    (stopped g.D.Disk.held c.args.config.now c.args.bay.now c.recover_within.new.bay c.in-Err.error texts answers.0 c.args.state.now candidates answers.1 answers.2 knows.stands).stands

pub returns-then-not-state-clause-keeps : goal.returns-then-not-state-clause-keeps
returns-then-not-state-clause-keeps g c = leaves-same g.D.Disk g.met.D.Disk.same_itself c.args.config.now _ c.args.bay.now c.requires.off

pub returns-then-not-state-clause-prints : goal.returns-then-not-state-clause-prints
returns-then-not-state-clause-prints g c =
    ok-so (λ lines. lines.items ≡ NotUp asked.Recover ∷ []) (λ lines. Prints g.D.Disk c.args.config.now (RecoverAction c.args.kill) c.args.state.now c.args.bay.now lines.items c.args.state.now c.args.bay.now)
    c.one_line.result c.one_line.ensures (λ lines is. inl (search rules, (is, refl, refl)))

pub returns-in_ok-lines-in-Ok-clause-prints : goal.returns-in_ok-lines-in-Ok-clause-prints
returns-in_ok-lines-in-Ok-clause-prints g c =
    let found = c.in-Ok.recovered in
    recovered-prints g.D.Disk c.args.config.now c.args.kill c.args.state.now c.recovered.result c.args.bay.now c.recover_within.new.bay found c.in_ok-lines-in-Ok.lines.items (search rules) c.in-Ok.ensures.begun (search rules)
    (c.in_ok-lines-in-Ok.ensures ∙ ap (λ rs. recovered_lines c.args.config.now c.args.state.now.printed rs c.as_slice-lost.result.now found.epoch) c.as_slice-records.ensures
    ∙ ap (λ ls. recovered_lines c.args.config.now c.args.state.now.printed found.records ls found.epoch) c.as_slice-lost.ensures)
    (search rules)

pub returns-in_ok-line-in-Err-clause-prints : goal.returns-in_ok-line-in-Err-clause-prints
returns-in_ok-line-in-Err-clause-prints g c =
    ok-so (λ lines. lines.items ≡ c.in_ok-line-in-Err.line ∷ []) (λ lines. Prints g.D.Disk c.args.config.now (RecoverAction c.args.kill) c.args.state.now c.args.bay.now lines.items c.down.result c.recover_within.new.bay)
    c.one_line-in-Err.result c.one_line-in-Err.ensures
    (λ lines one. refused-prints g.D.Disk c.args.config.now c.args.kill c.args.state.now c.down.result c.args.bay.now c.recover_within.new.bay c.in-Err.error c.in_ok-line-in-Err.line lines.items (search rules) c.in_ok-line-in-Err.ensures
    (λ number e. c.recover_within.ensures.cause number (c.in-Err.is ∙ ap Err e)) one c.down.ensures)
