use Rattle.std.proofs.Common.{refl, arith}
use Rattle.one_boxcar.proofs.tests.run_on.Goals as goal

pub run_named-requires-clause-run : goal.run_named-requires-clause-run
run_named-requires-clause-run g c = λ κs bounds. record { start = c.in_ok-trail.ensures; opens = c.in_ok-started.ensures; found_is = refl; before_is = refl; faults_are = refl; premise_holds = tt; handed_in = record { device = tt; tells = refl; later = omega arith } }
