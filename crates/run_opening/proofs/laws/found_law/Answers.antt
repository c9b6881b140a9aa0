use Rattle.run_opening.proofs.FoundAll.{based, found_over, only_list}
use Rattle.run_opening.proofs.Standing.{holds_entries}
use Rattle.run_opening.proofs.laws.found_law.Goals as goal

pub returns-clause-over : goal.returns-clause-over
returns-clause-over g c = λ config epoch named old opened valid are. found_over g.D.Disk c.spelling_laws.ensures config epoch named old opened valid are

pub returns-clause-based : goal.returns-clause-based
returns-clause-based g c = λ config epoch named old opened valid are. based g.D.Disk c.spelling_laws.ensures config epoch named old opened valid are

pub returns-clause-values : goal.returns-clause-values
returns-clause-values g c = λ config volume device blocks are tells. holds_entries g.D.Disk config volume device blocks are tells

pub returns-clause-list : goal.returns-clause-list
returns-clause-list g c = λ config epoch named old opened valid are. only_list g.D.Disk c.spelling_laws.ensures config epoch named old opened valid are
