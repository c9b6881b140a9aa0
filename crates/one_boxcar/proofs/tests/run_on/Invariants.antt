use Rattle.std.specs.Prelude.{Some, []}
use Rattle.commit_boxcar.specs.FirstRun.{first_found, first_records}
use Rattle.one_boxcar.proofs.tests.run_on.Given as goal

abbrev pub ghosts-run_named-J-Run : goal.ghosts-run_named-J-Run
ghosts-run_named-J-Run g a = record { table = a.started.table; opening = a.started.states }

abbrev pub ghosts-run_named-J-NodeRun : goal.ghosts-run_named-J-NodeRun
ghosts-run_named-J-NodeRun g a = record { found = first_found; rules = λ _. record { roll = 0; trail = 0; discs = []; files = [] }; faults = λ _. 0; premise = λ _. Unit {0}; acts = 0 }

abbrev pub ghosts-run_named-J-DeviceRun : goal.ghosts-run_named-J-DeviceRun
ghosts-run_named-J-DeviceRun g a = record { devices = λ _. Some a.trail.device }

abbrev pub ghosts-run_named-J-MonitorRun : goal.ghosts-run_named-J-MonitorRun
ghosts-run_named-J-MonitorRun g a = record { before = first_records }
