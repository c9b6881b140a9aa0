use Rattle.std.proofs.Common.{refl, arith}
use Rattle.two_discs.proofs.one_writer.a_disc_hands_in.Goals as goal

pub hand_and_flush-requires-clause-carries : goal.hand_and_flush-requires-clause-carries
hand_and_flush-requires-clause-carries g c = record { found_is = refl; rules_are = refl; faults_are = refl; premise_holds = tt; handed_in = record { device = tt; tells = refl; later = omega arith } }
