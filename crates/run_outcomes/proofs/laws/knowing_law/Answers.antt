use Rattle.run_outcomes.proofs.Knowing.{enough_law, first_law, moves_known_law, once_law, still_law, then_law}
use Rattle.run_outcomes.proofs.laws.knowing_law.Goals as goal

pub returns-clause-first : goal.returns-clause-first
returns-clause-first c = first_law

pub returns-clause-once : goal.returns-clause-once
returns-clause-once c = once_law

pub returns-clause-still : goal.returns-clause-still
returns-clause-still c = still_law

pub returns-clause-next : goal.returns-clause-next
returns-clause-next c = then_law

pub returns-clause-enough : goal.returns-clause-enough
returns-clause-enough c = enough_law

pub returns-clause-moves : goal.returns-clause-moves
returns-clause-moves c = moves_known_law
