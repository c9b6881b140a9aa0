use Rattle.tmf_script.proofs.WrittenAgain.{written_text}
use Rattle.tmf_script.proofs.laws.each_script_has_words.Goals as goal

pub returns : goal.returns
returns c = written_text
