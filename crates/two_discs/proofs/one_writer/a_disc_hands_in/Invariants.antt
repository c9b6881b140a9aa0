use Rattle.std.specs.Prelude.{Some}
use Rattle.audit_writer.specs.OneTrail.{one_found, one_rules}
use Rattle.two_discs.proofs.one_writer.a_disc_hands_in.Given as goal

abbrev pub ghosts-hand_and_flush-J-Run : goal.ghosts-hand_and_flush-J-Run
ghosts-hand_and_flush-J-Run g a = record { table = a.started.table; opening = a.started.states }

abbrev pub ghosts-hand_and_flush-J-NodeRun : goal.ghosts-hand_and_flush-J-NodeRun
ghosts-hand_and_flush-J-NodeRun g a = record { found = one_found; rules = λ _. one_rules; faults = λ _. 0; premise = λ _. Unit {0}; acts = 0 }

abbrev pub ghosts-hand_and_flush-J-DeviceRun : goal.ghosts-hand_and_flush-J-DeviceRun
ghosts-hand_and_flush-J-DeviceRun g a = record { devices = λ _. Some a.trail.device }
