use Rattle.std.proofs.Common.{[], ap}
use Rattle.commit_boxcar.proofs.Ruled.{begins, forks_pops}
use Rattle.commit_boxcar.proofs.queue.open_requests.Goals as goal

pub with_rule-requires : goal.with_rule-requires
with_rule-requires g c = begins

pub another-pops-requires-clause-rule : goal.another-pops-requires-clause-rule
another-pops-requires-clause-rule g c = forks_pops _ _ [] (ap (λ v. v.popped) c.in_ok-requests.ensures.2)
