use Rattle.audit_writer.specs.OneTrail.{one_rules}
use Rattle.one_disc.specs.OneDisc.{disc_found, two_devices}
use Rattle.one_disc.proofs.tests.locking.a_file_is_locked.Given as goal

abbrev pub ghosts-run_named-J-Run : goal.ghosts-run_named-J-Run
ghosts-run_named-J-Run g a = record { table = a.started.table; opening = a.started.states }

abbrev pub ghosts-run_named-J-NodeRun : goal.ghosts-run_named-J-NodeRun
ghosts-run_named-J-NodeRun g a = record { found = disc_found; rules = λ _. one_rules; faults = λ _. 0; premise = λ _. Unit {0}; acts = 0 }

abbrev pub ghosts-run_named-J-DeviceRun : goal.ghosts-run_named-J-DeviceRun
ghosts-run_named-J-DeviceRun g a = record { devices = two_devices a.trail.device a.blocks.device }
