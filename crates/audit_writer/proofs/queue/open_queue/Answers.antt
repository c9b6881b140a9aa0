use Rattle.std.proofs.Common.{[], ap}
use Rattle.audit_writer.proofs.Ruled.{begins, forks_pops}
use Rattle.audit_writer.proofs.queue.open_queue.Goals as goal

pub ruled-requires-clause-rule : goal.ruled-requires-clause-rule
ruled-requires-clause-rule g c = begins

pub another-pops-requires-clause-rule : goal.another-pops-requires-clause-rule
another-pops-requires-clause-rule g c = forks_pops _ _ [] (ap (λ v. v.popped) c.in_ok-queue.ensures.3)
