use Rattle.run_outcomes.proofs.Next.{begin_law, go_on_law}
use Rattle.run_outcomes.proofs.None.{next_has_none_law}
use Rattle.run_outcomes.proofs.laws.next_law.Goals as goal

pub returns-clause-go_on : goal.returns-clause-go_on
returns-clause-go_on c = go_on_law

pub returns-clause-begins : goal.returns-clause-begins
returns-clause-begins c = begin_law

pub returns-clause-none : goal.returns-clause-none
returns-clause-none c = next_has_none_law c.events_law.ensures
