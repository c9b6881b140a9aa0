use Rattle.keyed_file.proofs.BlockCalls.{length-block_text}
use Rattle.keyed_file.proofs.LabelLengths.{length-label_text}
use Rattle.keyed_file.proofs.laws.spelling_length_law.Goals as goal

pub returns-clause-block : goal.returns-clause-block
returns-clause-block c = length-block_text

pub returns-clause-label : goal.returns-clause-label
returns-clause-label c = length-label_text
