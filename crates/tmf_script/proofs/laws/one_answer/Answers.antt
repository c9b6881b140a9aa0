use Rattle.tmf_script.proofs.OneAnswer.{has_answer}
use Rattle.tmf_script.proofs.Readings.{one_script, one_refusal, not_both}
use Rattle.tmf_script.proofs.laws.one_answer.Goals as goal

pub returns : goal.returns
returns c = record { some = has_answer; one_script = one_script; one_refusal = one_refusal; not_both = not_both }
