use Rattle.std.specs.Prelude.{Some}
use Rattle.audit_writer.specs.OneTrail.{one_rules}
use Rattle.audit_writer.specs.FourFiles.{four_found, four_standing}
use Rattle.two_discs.proofs.one_writer.run_four.Given as goal

abbrev pub ghosts-purge_two-J-Run : goal.ghosts-purge_two-J-Run
ghosts-purge_two-J-Run g a = record { table = a.started.table; opening = a.started.states }

abbrev pub ghosts-purge_two-J-NodeRun : goal.ghosts-purge_two-J-NodeRun
ghosts-purge_two-J-NodeRun g a = record { found = four_found (four_standing a.files.first a.files.second a.files.third); rules = λ _. one_rules; faults = λ _. 0; premise = λ _. Unit {0}; acts = 0 }

abbrev pub ghosts-purge_two-J-DeviceRun : goal.ghosts-purge_two-J-DeviceRun
ghosts-purge_two-J-DeviceRun g a = record { devices = λ _. Some a.trail.device }
