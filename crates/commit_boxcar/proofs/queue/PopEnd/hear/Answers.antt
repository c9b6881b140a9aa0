use Rattle.commit_boxcar.proofs.Ruled.{merges_told}
use Rattle.commit_boxcar.proofs.queue.PopEnd.hear.Goals as goal

pub absorb-requires-clause-rule : goal.absorb-requires-clause-rule
absorb-requires-clause-rule g c = merges_told _ _ _ _
