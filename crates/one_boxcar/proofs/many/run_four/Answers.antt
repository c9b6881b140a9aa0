use Rattle.std.proofs.Common.{refl}
use Rattle.one_boxcar.proofs.Turns.{of_first_run}
use Rattle.one_boxcar.proofs.many.run_four.Goals as goal

pub four_producers-requires-clause-run : goal.four_producers-requires-clause-run
four_producers-requires-clause-run g c = λ κs bounds. of_first_run g.J.NodeRun.found c.in_ok-settling.settling.tx 5 1 c.requires.found c.in_ok-settling.ensures refl
