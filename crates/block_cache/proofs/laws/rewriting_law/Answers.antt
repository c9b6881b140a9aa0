use Rattle.block_cache.proofs.Rewritings.{recovered_value-same, agrees_recovered, rewriting, rewritten}
use Rattle.block_cache.proofs.laws.rewriting_law.Goals as goal

pub returns-clause-value : goal.returns-clause-value
returns-clause-value c = recovered_value-same

pub returns-clause-recovered : goal.returns-clause-recovered
returns-clause-recovered c = agrees_recovered

pub returns-clause-rewriting : goal.returns-clause-rewriting
returns-clause-rewriting c = rewriting

pub returns-clause-rewritten : goal.returns-clause-rewritten
returns-clause-rewritten c = rewritten
