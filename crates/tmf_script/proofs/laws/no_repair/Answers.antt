use Rattle.tmf_script.proofs.OneAnswer.{not_mended}
use Rattle.tmf_script.proofs.laws.no_repair.Goals as goal

pub returns : goal.returns
returns c = not_mended
