use Rattle.std.proofs.Common.{inr}
use Rattle.disc_process.proofs.disc.DiscState.free_undone.Goals as goal

pub free-requires-clause-ended : goal.free-requires-clause-ended
free-requires-clause-ended g c = inr (c.requires.decided, c.requires.none)
