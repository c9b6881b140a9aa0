use Rattle.std.proofs.Common.{refl, arith}
use Rattle.two_discs.proofs.one_writer.a_disc_flushes.Goals as goal

pub flush_locked-requires-clause-carries : goal.flush_locked-requires-clause-carries
flush_locked-requires-clause-carries g c = record { found_is = refl; rules_are = refl; faults_are = refl; premise_holds = tt; handed_in = record { device = tt; tells = refl; later = omega arith } }
