use Rattle.audit_writer.proofs.Ruled.{forks_told}
use Rattle.audit_writer.proofs.queue.Entrance.tell.Goals as goal

pub another-requires-clause-rule : goal.another-requires-clause-rule
another-requires-clause-rule g c = forks_told _ _
