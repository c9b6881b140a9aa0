use Rattle.std.proofs.Common.{◌≡◌, refl, arith}
use Rattle.one_dump.proofs.tests.a_volume_is_dumped_twice.Goals as goal

pub run_named-requires-clause-run : goal.run_named-requires-clause-run
run_named-requires-clause-run g c = (record { opens = c.in_ok-started.ensures; found_is = refl }, c.in_ok-config.ensures)

pub run_named-requires-clause-trail : goal.run_named-requires-clause-trail
run_named-requires-clause-trail g c = record { formatted = c.in_ok-trail.ensures; rules_are = refl; faults_are = refl; premise_holds = refl; handed_in = record { device = tt; tells = refl; later = omega arith } }

pub run_named-requires-clause-volume : goal.run_named-requires-clause-volume
run_named-requires-clause-volume g c = record { attached = c.in_ok-blocks.ensures; faults_are = refl; handed_in = record { device = tt; tells = refl; later = omega arith }; held = refl }

pub run_named-requires-clause-dumps : goal.run_named-requires-clause-dumps
run_named-requires-clause-dumps g c =
    record { empty = c.in_ok-dumps.ensures; faults_are = refl; untold = λ (e : 13 ≡ 1). absurd (cc (e)); handed_in = record { device = tt; tells = refl; later = omega arith }; held = refl }
