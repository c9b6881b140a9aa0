use Rattle.std.proofs.Common.{refl, arith}
use Rattle.two_discs.proofs.one_writer.run_four.Goals as goal

pub purge_two-requires-clause-run : goal.purge_two-requires-clause-run
purge_two-requires-clause-run g c =
    record {
      a = c.in_ok-files.files.first;
      b = c.in_ok-files.files.second;
      c = c.in_ok-files.files.third;
      filled = c.in_ok-trail.ensures;
      opens = c.in_ok-started.ensures;
      found_is = refl;
      rules_are = refl;
      faults_are = refl;
      premise_holds = tt;
      handed_in = record { device = tt; tells = refl; later = omega arith };
    }
