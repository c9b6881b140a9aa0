use Rattle.std.specs.Prelude.{Some}
use Rattle.audit_writer.specs.OneTrail.{one_found, one_rules}
use Rattle.two_discs.proofs.one_writer.a_disc_flushes.Given as goal

abbrev pub ghosts-flush_locked-J-Run : goal.ghosts-flush_locked-J-Run
ghosts-flush_locked-J-Run g a = record { table = a.started.table; opening = a.started.states }

abbrev pub ghosts-flush_locked-J-NodeRun : goal.ghosts-flush_locked-J-NodeRun
ghosts-flush_locked-J-NodeRun g a = record { found = one_found; rules = λ _. one_rules; faults = λ _. 0; premise = λ _. Unit {0}; acts = 0 }

abbrev pub ghosts-flush_locked-J-DeviceRun : goal.ghosts-flush_locked-J-DeviceRun
ghosts-flush_locked-J-DeviceRun g a = record { devices = λ _. Some a.trail.device }
