use Rattle.std.proofs.Common.{arith}
use Rattle.commit_boxcar.proofs.Ruled.{pops, learns, end_popped, end_empty}
use Rattle.commit_boxcar.proofs.queue.PopEnd.pop.Goals as goal

pub pop_as-requires-clause-rule : goal.pop_as-requires-clause-rule
pop_as-requires-clause-rule g c = (pops _ _ _ _ c.self.invariant.2, learns _ _ _ _ c.self.invariant.2)
