use Rattle.std.specs.Prelude.{Some}
use Rattle.two_discs.specs.TwoDiscs.{two_found, two_rules}
use Rattle.two_discs.proofs.tests.run_over_memory.Given as goal

abbrev pub ghosts-run_two-J-Run : goal.ghosts-run_two-J-Run
ghosts-run_two-J-Run g a = record { table = a.started.table; opening = a.started.states }

abbrev pub ghosts-run_two-J-NodeRun : goal.ghosts-run_two-J-NodeRun
ghosts-run_two-J-NodeRun g a = record { found = two_found; rules = λ _. two_rules; faults = λ _. 0; premise = λ _. Unit {0}; acts = 0 }

abbrev pub ghosts-run_two-J-DeviceRun : goal.ghosts-run_two-J-DeviceRun
ghosts-run_two-J-DeviceRun g a = record { devices = λ _. Some a.trail.device }
