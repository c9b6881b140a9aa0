use Rattle.std.specs.Prelude.{IfOk, None, Some}
use Rattle.std.proofs.Common.{rules, ◌≡◌, ◌⊎◌, ◌∷◌, [], inl, inr, refl, sym, subst, ◌∙◌}
use Rattle.tmf_model.specs.declared.script.Action.TheVariants.{Run as RunAction}
use Rattle.tmf_lines.specs.declared.line.ActionKind.TheVariants as asked
use Rattle.tmf_lines.specs.declared.line.Line.TheVariants.{NotUp}
use Rattle.tmf_cli.specs.declared.node.NodeState.{NodeState}
use Rattle.tmf_cli.specs.AnyDevices.{Prints, PrintsNoRun, PrintsRun}
use Rattle.tmf_cli.specs.BetweenActions.{HasDone, node_of}
use Rattle.tmf_cli.specs.Lost.{up_for, workers_name_lost}
use Rattle.tmf_cli.specs.OutputLaw.{down}
use Rattle.tmf_cli.proofs.Acts.{ok-so}
use Rattle.tmf_cli.proofs.Countdowns.{leaves-same}
use Rattle.tmf_cli.proofs.OnThreads.{unrun-broken, unrun-done}
use Rattle.tmf_cli.proofs.Resting.{small-up}
use Rattle.tmf_cli.proofs.act.act_run.Goals as goal

pub returns-in_default-clause-done : goal.returns-in_default-clause-done
returns-in_default-clause-done g c = λ candidates tell knows.
    let down_is : up_for c.args.config.now c.args.phase.now c.args.state.now ≡ None = sym c.up_for.ensures ∙ search rules in
    ok-so (λ lines. lines.items ≡ NotUp asked.Run ∷ [])
    (λ lines. HasDone g.D.Disk.held g.D.Disk.faults c.args.config.now (RunAction c.args.phase.now) (node_of c.args.state.now candidates) c.args.bay lines.items c.args.state.now c.args.bay) c.one_line.result c.one_line.ensures
    (λ lines is. unrun-done g.D.Disk.held g.D.Disk.faults c.args.config.now c.args.phase.now c.args.bay c.args.state.now candidates lines.items down_is is knows)

pub returns-in_default-clause-broken : goal.returns-in_default-clause-broken
returns-in_default-clause-broken g c = λ candidates tell knows.
    let down_is : up_for c.args.config.now c.args.phase.now c.args.state.now ≡ None = sym c.up_for.ensures ∙ search rules in
    unrun-broken g.D.Disk.held g.D.Disk.faults c.args.config.now c.args.phase.now c.args.bay c.args.state.now candidates c.one_line.result down_is knows

pub returns-in_default-clause-keeps : goal.returns-in_default-clause-keeps
returns-in_default-clause-keeps g c = leaves-same g.D.Disk (g.met.D.Disk g.world.𝓛 g.world.𝓜 g.world.𝓡 ((λ s x. x), (λ x. x), (λ x. x), λ x. x)).same_itself c.args.config.now _ c.args.bay c.requires.off

pub returns-in_default-clause-prints : goal.returns-in_default-clause-prints
returns-in_default-clause-prints g c =
    let down_is : up_for c.args.config.now c.args.phase.now c.args.state.now ≡ None = sym c.up_for.ensures ∙ search rules in
    ok-so (λ lines. lines.items ≡ NotUp asked.Run ∷ [])
    (λ lines. Prints g.D.Disk c.args.config.now (RunAction c.args.phase.now) c.args.state.now c.args.bay lines.items c.args.state.now c.args.bay) c.one_line.result c.one_line.ensures
    (λ lines is. inl (down_is, (is, refl, refl)))

pub act_threads-requires-clause-epoch : goal.act_threads-requires-clause-epoch
act_threads-requires-clause-epoch g c = λ _ _.
    let may : up_for c.args.config.now c.args.phase.now c.args.state.now ≡ Some c.in-Some.up = sym c.up_for.ensures ∙ search rules in
    small-up (λ u. workers_name_lost c.args.config.now u.lost c.args.phase.now.workers) c.args.state.now.up c.in-Some.up may c.requires.small

pub returns-clause-done : goal.returns-clause-done
returns-clause-done g c = λ candidates tell knows.
    let may : up_for c.args.config.now c.args.phase.now c.args.state.now ≡ Some c.in-Some.up = sym c.up_for.ensures ∙ search rules in
    subst (λ (s : NodeState). IfOk c.act_threads.result.0 (λ v. HasDone g.D.Disk.held g.D.Disk.faults c.args.config.now (RunAction c.args.phase.now) (node_of c.args.state.now candidates) c.args.bay v.items s c.act_threads.result.1)) (sym c.down.ensures)
    (c.act_threads.ensures.done c.args.state.now candidates may tell knows)

pub returns-clause-broken : goal.returns-clause-broken
returns-clause-broken g c = λ candidates tell knows.
    let may : up_for c.args.config.now c.args.phase.now c.args.state.now ≡ Some c.in-Some.up = sym c.up_for.ensures ∙ search rules in
    c.act_threads.ensures.broken c.args.state.now candidates may tell knows

pub returns-clause-prints : goal.returns-clause-prints
returns-clause-prints g c =
    let may : up_for c.args.config.now c.args.phase.now c.args.state.now ≡ Some c.in-Some.up = sym c.up_for.ensures ∙ search rules in
    let new = c.act_threads.result.1 in
    let state = c.args.state.now in
    subst (λ (s : NodeState). IfOk c.act_threads.result.0 (λ v. Prints g.D.Disk c.args.config.now (RunAction c.args.phase.now) state c.args.bay v.items s new)) (sym c.down.ensures)
    (ok-so (λ v. PrintsRun g.D.Disk c.args.config.now c.args.phase.now state c.args.bay v.items (down state) new ⊎ PrintsNoRun g.D.Disk c.args.config.now c.args.phase.now state c.args.bay v.items (down state) new)
    (λ v. Prints g.D.Disk c.args.config.now (RunAction c.args.phase.now) state c.args.bay v.items (down state) new) c.act_threads.result.0 (c.act_threads.ensures.prints state may) (λ v p. inr p))
