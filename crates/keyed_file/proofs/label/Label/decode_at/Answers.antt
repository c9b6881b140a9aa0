use Rattle.std.proofs.Common.{None, Some, sym, subst, ◌∙◌}
use Rattle.keyed_file.specs.Fault.{IsLabelFault}
use Rattle.keyed_file.specs.LabelFormat.{bad_label}
use Rattle.keyed_file.proofs.Differences.{least-first, least-second}
use Rattle.keyed_file.proofs.WantedLabels.{bad_at, found_difference, wanted_label, wanted_nowhere}
use Rattle.keyed_file.proofs.label.Label.decode_at.Goals as goal

pub returns-in-Some-clause-only : goal.returns-in-Some-clause-only
returns-in-Some-clause-only c = λ label is same spelled.
    absurd (cc (sym (found_difference c.args.wanted.now c.args.bytes.now _ _ _ c.low_in.ensures c.write_label.ensures c.first_difference-difference.ensures) ∙ wanted_nowhere c.args.wanted.now label c.args.bytes.now is same spelled, c.in-Some.is))

pub returns-in-Some-clause-cause : goal.returns-in-Some-clause-cause
returns-in-Some-clause-cause c =
    bad_at c.args.wanted.now c.args.bytes.now None (Some c.in-Some.at) c.in-Ok.ensures.fine
    (found_difference c.args.wanted.now c.args.bytes.now _ _ _ c.low_in.ensures c.write_label.ensures c.first_difference-difference.ensures ∙ c.in-Some.is)

pub returns-in-None-clause-wanted : goal.returns-in-None-clause-wanted
returns-in-None-clause-wanted c =
    wanted_label c.args.wanted.now c.in-Ok.label c.args.bytes.now c.requires.bytes c.requires.wanted c.in-Ok.ensures.valid c.in-Ok.ensures.spelled
    (found_difference c.args.wanted.now c.args.bytes.now _ _ _ c.low_in.ensures c.write_label.ensures c.first_difference-difference.ensures ∙ c.in-None.is)

pub returns-in-None-clause-fine : goal.returns-in-None-clause-fine
returns-in-None-clause-fine c =
    bad_at c.args.wanted.now c.args.bytes.now None None c.in-Ok.ensures.fine
    (found_difference c.args.wanted.now c.args.bytes.now _ _ _ c.low_in.ensures c.write_label.ensures c.first_difference-difference.ensures ∙ c.in-None.is)

pub returns-in-Some-difference-clause-cause : goal.returns-in-Some-difference-clause-cause
returns-in-Some-difference-clause-cause c =
    bad_at c.args.wanted.now c.args.bytes.now (Some c.in-Err-Bad.bad.at) (Some c.in-Some-difference.at) (subst (IsLabelFault (bad_label c.args.bytes.now)) c.in-Err-Bad.field-0-is c.in-Err-Bad.ensures.cause)
    (found_difference c.args.wanted.now c.args.bytes.now _ _ _ c.low_in.ensures c.write_label.ensures c.first_difference-difference.ensures ∙ c.in-Some-difference.is)
    ∙ least-second c.in-Err-Bad.bad.at c.in-Some-difference.at c.if-at-bad.true

pub returns-in_default-clause-cause : goal.returns-in_default-clause-cause
returns-in_default-clause-cause c =
    let own = subst (IsLabelFault (bad_label c.args.bytes.now)) c.in-Err-Bad.field-0-is c.in-Err-Bad.ensures.cause in
    let found = found_difference c.args.wanted.now c.args.bytes.now _ _ _ c.low_in.ensures c.write_label.ensures c.first_difference-difference.ensures in elim c.in_default.branch [
      | goal.in_default-via-in-Some-difference+else-at-bad w ↦ bad_at c.args.wanted.now c.args.bytes.now (Some c.in-Err-Bad.bad.at) (Some w.in-Some-difference.at) own (found ∙ w.in-Some-difference.is) ∙ least-first c.in-Err-Bad.bad.at w.in-Some-difference.at w.if-at-bad.false
      | goal.in_default-via-in_default w ↦ bad_at c.args.wanted.now c.args.bytes.now (Some c.in-Err-Bad.bad.at) None own (found ∙ w.in_default.is)
    ]
