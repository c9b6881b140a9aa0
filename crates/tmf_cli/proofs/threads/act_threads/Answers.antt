use Rattle.std.proofs.Common.{◌≡◌, ◌⊎◌, ◌∷◌, [], inl, inr, ap, ◌∙◌}
use Rattle.tmf_model.specs.declared.script.Action.TheVariants.{Run as RunAction}
use Rattle.tmf_cli.specs.BetweenActions.{HasBroken, HasDone, node_of}
use Rattle.tmf_cli.specs.OutputLaw.{down}
use Rattle.tmf_cli.specs.RunLines.{run_lines}
use Rattle.tmf_cli.proofs.Acts.{err-so, ok-so}
use Rattle.tmf_cli.proofs.OnThreads.{threads-done, threads-unmade, unrun-memory, unrun-threads}
use Rattle.tmf_cli.specs.AnyDevices.{PrintsNoRun, PrintsRun}
use Rattle.tmf_cli.proofs.AnyDevices.{ran-prints, unrun-prints}
use Rattle.tmf_cli.proofs.threads.act_threads.Goals as goal

pub returns-in-Ok-run_lines-clause-done : goal.returns-in-Ok-run_lines-clause-done
returns-in-Ok-run_lines-clause-done g c = λ state candidates may tell knows.
    threads-done g.D.Disk c.args.config.now c.args.phase.now c.args.bay c.run_within-ran.result.1 state c.args.up may c.requires.valid c.requires.phase tell c.run_within-ran.result.0 c.run_within-ran.ensures.ran candidates knows c.row_law.ensures c.single_law.ensures.ran c.dumps_law.ensures.ran c.front_law.ensures.ran c.in-Ok.outcomes c.in-Ok.is c.telling_law.ensures.ran c.in-Ok-run_lines.lines.items (c.in-Ok-run_lines.ensures ∙ ap (run_lines c.args.config.now) c.as_slice.ensures)

pub returns-in-Ok-clause-broken : goal.returns-in-Ok-clause-broken
returns-in-Ok-clause-broken g c = λ state candidates may tell knows.
    threads-unmade g.D.Disk c.args.config.now c.args.phase.now c.args.bay c.run_within-ran.result.1 state c.args.up may c.requires.valid c.requires.phase tell c.run_within-ran.result.0 c.run_within-ran.ensures.ran candidates knows c.row_law.ensures c.single_law.ensures.ran c.dumps_law.ensures.ran c.front_law.ensures.ran c.in-Ok.outcomes c.in-Ok.is c.telling_law.ensures.ran

pub returns-in-Ok-run_line-clause-done : goal.returns-in-Ok-run_line-clause-done
returns-in-Ok-run_line-clause-done g c = λ state candidates may tell knows.
    ok-so (λ lines. lines.items ≡ c.in-Ok-run_line.line ∷ []) (λ lines. HasDone g.D.Disk.held g.D.Disk.faults c.args.config.now (RunAction c.args.phase.now) (node_of state candidates) c.args.bay lines.items (down state) c.run_within-ran.result.1) c.one_line.result c.one_line.ensures
    (λ lines one. unrun-threads g.D.Disk c.args.config.now c.args.phase.now c.args.bay c.run_within-ran.result.1 state c.args.up may c.requires.valid c.requires.phase tell c.run_within-ran.result.0 c.run_within-ran.ensures.ran candidates knows c.in-Err.error c.in-Err.is c.undamaged_law.ensures c.telling_law.ensures.not_run c.in-Ok-run_line.line lines.items c.in-Ok-run_line.ensures one)

pub returns-in-Ok-run_line-clause-broken : goal.returns-in-Ok-run_line-clause-broken
returns-in-Ok-run_line-clause-broken g c = λ state candidates may tell knows.
    err-so (λ e. HasBroken g.D.Disk.held g.D.Disk.faults c.args.config.now (RunAction c.args.phase.now) (node_of state candidates) c.args.bay c.run_within-ran.result.1) c.one_line.result
    (λ e. unrun-memory g.D.Disk c.args.config.now c.args.phase.now c.args.bay c.run_within-ran.result.1 state c.args.up may c.requires.valid c.requires.phase tell c.run_within-ran.result.0 c.run_within-ran.ensures.ran candidates knows c.in-Err.error c.in-Err.is)

pub returns-clause-broken : goal.returns-clause-broken
returns-clause-broken g c = λ state candidates may tell knows.
    unrun-memory g.D.Disk c.args.config.now c.args.phase.now c.args.bay c.run_within-ran.result.1 state c.args.up may c.requires.valid c.requires.phase tell c.run_within-ran.result.0 c.run_within-ran.ensures.ran candidates knows c.in-Err.error c.in-Err.is

pub returns-in-Ok-run_lines-clause-prints : goal.returns-in-Ok-run_lines-clause-prints
returns-in-Ok-run_lines-clause-prints g c = λ state may.
    inl (ran-prints g.D.Disk c.args.config.now c.args.phase.now state c.args.up may c.args.bay c.run_within-ran.result.1 c.run_within-ran.result.0 c.run_within-ran.ensures.ran c.in-Ok.outcomes c.in-Ok.is c.in-Ok-run_lines.lines.items
    (c.in-Ok-run_lines.ensures ∙ ap (run_lines c.args.config.now) c.as_slice.ensures))

pub returns-in-Ok-run_line-clause-prints : goal.returns-in-Ok-run_line-clause-prints
returns-in-Ok-run_line-clause-prints g c = λ state may.
    ok-so (λ lines. lines.items ≡ c.in-Ok-run_line.line ∷ [])
    (λ lines. PrintsRun g.D.Disk c.args.config.now c.args.phase.now state c.args.bay lines.items (down state) c.run_within-ran.result.1 ⊎ PrintsNoRun g.D.Disk c.args.config.now c.args.phase.now state c.args.bay lines.items (down state) c.run_within-ran.result.1)
    c.one_line.result c.one_line.ensures
    (λ lines one. inr (unrun-prints g.D.Disk c.args.config.now c.args.phase.now state c.args.up may c.args.bay c.run_within-ran.result.1 c.run_within-ran.result.0 c.run_within-ran.ensures.ran c.in-Err.error c.in-Err.is c.in-Ok-run_line.line lines.items c.in-Ok-run_line.ensures one))
