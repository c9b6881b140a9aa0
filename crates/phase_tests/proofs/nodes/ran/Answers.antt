use Rattle.std.specs.List.{AllByRecursion}
use Rattle.std.proofs.Common.{sym, subst, ◌∙◌}
use Rattle.std.proofs.lemmas.List.Elements.{recursion_from_All}
use Rattle.tmf_model.specs.Script.{IsValidAction}
use Rattle.phase_tests.proofs.nodes.ran.Goals as goal

pub run_phase-requires-clause-phase : goal.run_phase-requires-clause-phase
run_phase-requires-clause-phase g c κs within =
    let valid = recursion_from_All (IsValidAction c.args.script.now.config) c.args.script.now.actions c.requires.actions in
    let first = (subst (AllByRecursion (IsValidAction c.args.script.now.config)) (sym c.as_slice.ensures ∙ c.in-Some-Run-default.ensures.cases.0) valid).0 in
    subst (IsValidAction c.args.script.now.config) c.in-Some-Run-default.field-0-0-is first
