use Rattle.online_dump.proofs.Lawful.{allowed_dump, allowed_opening}
use Rattle.online_dump.proofs.laws.shown_law.Goals as goal

pub returns-clause-opening : goal.returns-clause-opening
returns-clause-opening c = λ part disc first old found image was shows. allowed_opening part disc first old found image was shows

pub returns-clause-own : goal.returns-clause-own
returns-clause-own c = λ opening found v part disc entries old image seen shows. allowed_dump opening found v part disc entries old image seen shows
