use Rattle.std.specs.Prelude.{◌≡◌, ◌==◌, Some, if◌then◌else◌}
use Rattle.audit_writer.specs.OneTrail.{one_rules}
use Rattle.one_dump.specs.OneDump.{one_found}
use Rattle.one_dump.proofs.tests.a_volume_is_dumped_twice.Given as goal

abbrev pub ghosts-run_named-J-Run : goal.ghosts-run_named-J-Run
ghosts-run_named-J-Run g a = record { table = a.started.table; opening = a.started.states }

-- nothing is said of what the dump device holds
abbrev pub ghosts-run_named-J-NodeRun : goal.ghosts-run_named-J-NodeRun
ghosts-run_named-J-NodeRun g a = record { found = one_found; rules = λ _. one_rules; faults = λ _. 0; premise = λ device. device ≡ 1; acts = a.blank.name }

abbrev pub ghosts-run_named-J-DeviceRun : goal.ghosts-run_named-J-DeviceRun
ghosts-run_named-J-DeviceRun g a = record { devices = λ number. if number == 5 then Some a.stores.blocks.device else (if number == 13 then Some a.stores.dumps.device else Some a.stores.trail.device) }
