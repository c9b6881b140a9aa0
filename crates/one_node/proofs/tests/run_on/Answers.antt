use Rattle.std.proofs.Common.{refl, arith}
use Rattle.one_node.proofs.tests.run_on.Goals as goal

pub run_named-requires-clause-run : goal.run_named-requires-clause-run
run_named-requires-clause-run g c = λ κs lives. (record { opens = c.in_ok-started.ensures; found_is = refl }, c.in_ok-config.ensures)

pub run_named-requires-clause-monitor : goal.run_named-requires-clause-monitor
run_named-requires-clause-monitor g c = λ κs lives. record { start = c.in_ok-monitor.ensures; before_is = refl; faults_are = refl; premise_holds = tt; handed_in = record { device = tt; tells = refl; later = omega arith } }

pub run_named-requires-clause-trail : goal.run_named-requires-clause-trail
run_named-requires-clause-trail g c = λ κs lives. record { formatted = c.in_ok-trail.ensures; rules_are = refl; faults_are = refl; premise_holds = tt; handed_in = record { device = tt; tells = refl; later = omega arith } }

pub run_named-requires-clause-volume : goal.run_named-requires-clause-volume
run_named-requires-clause-volume g c = λ κs lives. record { attached = c.in_ok-blocks.ensures; faults_are = refl; handed_in = record { device = tt; tells = refl; later = omega arith }; held = refl }
