use Rattle.commit_boxcar.proofs.Ruled.{forks_told}
use Rattle.commit_boxcar.proofs.queue.Asker.receipt.Goals as goal

pub another-pass-requires-clause-rule : goal.another-pass-requires-clause-rule
another-pass-requires-clause-rule g c = forks_told _ _
