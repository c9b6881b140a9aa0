use Rattle.audit_writer.proofs.Ruled.{forks_heard, merges_told}
use Rattle.audit_writer.proofs.queue.PopEnd.hear.Goals as goal

pub another-copy-requires-clause-rule : goal.another-copy-requires-clause-rule
another-copy-requires-clause-rule g c = forks_heard _ _

pub absorb-requires-clause-rule : goal.absorb-requires-clause-rule
absorb-requires-clause-rule g c = merges_told _ _ _ _
