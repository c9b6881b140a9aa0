use Rattle.tmf_script.proofs.Blanks.{words_of-blanks, lines_of-returns}
use Rattle.tmf_script.proofs.OneAnswer.{same_script, same_reason}
use Rattle.tmf_script.proofs.laws.only_words_count.Goals as goal

pub returns : goal.returns
returns c = record { script = same_script; reason = same_reason; blanks = words_of-blanks; returns = lines_of-returns }
