use Rattle.std.proofs.Common.{refl, subst}
use Rattle.tmf_lines.specs.Script.{IsRefusalOf}
use Rattle.tmf_cli.proofs.top.refusal_line.Goals as goal

pub returns-in-Refused-clause-why : goal.returns-in-Refused-clause-why
returns-in-Refused-clause-why c = λ text is. (c.in-Refused.line, c.in-Refused.why, subst (IsRefusalOf text) c.in-Refused.is is, refl)
