use Rattle.std.proofs.Common.{refl}
use Rattle.one_boxcar.proofs.Turns.{of_first_run}
use Rattle.one_boxcar.proofs.tests.run_both.Goals as goal

pub settle_both-requires : goal.settle_both-requires
settle_both-requires g c = record {
  first = of_first_run g.J.NodeRun.found c.in_ok-committing.committing.tx 1 1 c.requires.found c.in_ok-committing.ensures refl;
  second = of_first_run g.J.NodeRun.found c.in_ok-aborting.aborting.tx 2 1 c.requires.found c.in_ok-aborting.ensures refl;
}
