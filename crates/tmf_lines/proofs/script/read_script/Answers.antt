use Rattle.std.proofs.Common.{inl, subst, ⊎_elim}
use Rattle.tmf_script.specs.Reading.{IsCause}
use Rattle.tmf_lines.proofs.script.read_script.Goals as goal

pub returns-in-Err-Refusal-clause-only : goal.returns-in-Err-Refusal-clause-only
returns-in-Err-Refusal-clause-only c = λ script is.
    let none = c.in-Err-Refusal.ensures.only script is in
    let error = c.in-Err-Refusal.field-0-is in absurd (cc)

pub returns-in-Err-Refusal-clause-cause : goal.returns-in-Err-Refusal-clause-cause
returns-in-Err-Refusal-clause-cause c = subst (IsCause c.args.text.now) c.in-Err-Refusal.field-0-is c.in-Err-Refusal.ensures.cause

pub returns-in-Err-Refusal-clause-refused : goal.returns-in-Err-Refusal-clause-refused
returns-in-Err-Refusal-clause-refused c = λ line why refused.
    let error = c.in-Err-Refusal.field-0-is in
    ⊎_elim (λ same. inl (cc)) (λ none. absurd (cc)) (c.in-Err-Refusal.ensures.refused line why refused)
