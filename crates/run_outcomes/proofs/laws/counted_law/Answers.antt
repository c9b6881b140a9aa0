use Rattle.run_outcomes.proofs.Counted.{counted_law, moves_law, others_law, tokens_law}
use Rattle.run_outcomes.proofs.laws.counted_law.Goals as goal

pub returns-clause-counted : goal.returns-clause-counted
returns-clause-counted c = counted_law

pub returns-clause-others : goal.returns-clause-others
returns-clause-others c = others_law

pub returns-clause-tokens : goal.returns-clause-tokens
returns-clause-tokens c = tokens_law

pub returns-clause-moves : goal.returns-clause-moves
returns-clause-moves c = moves_law
