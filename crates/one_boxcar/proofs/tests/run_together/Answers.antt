use Rattle.std.proofs.Common.{refl}
use Rattle.one_boxcar.proofs.Turns.{of_first_run}
use Rattle.one_boxcar.proofs.tests.run_together.Goals as goal

pub settle_together-requires-clause-first : goal.settle_together-requires-clause-first
settle_together-requires-clause-first g c = λ κs bounds. of_first_run g.J.NodeRun.found c.in_ok-committing.committing.tx 1 1 c.requires.found c.in_ok-committing.ensures refl

pub settle_together-requires-clause-second : goal.settle_together-requires-clause-second
settle_together-requires-clause-second g c = λ κs bounds. of_first_run g.J.NodeRun.found c.in_ok-other.other.tx 2 1 c.requires.found c.in_ok-other.ensures refl
