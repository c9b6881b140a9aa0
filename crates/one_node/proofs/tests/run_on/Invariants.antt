use Rattle.audit_writer.specs.OneTrail.{one_rules}
use Rattle.commit_boxcar.specs.FirstRun.{first_records}
use Rattle.one_node.specs.OneNode.{one_found, three_devices}
use Rattle.one_node.proofs.tests.run_on.Given as goal

abbrev pub ghosts-run_named-J-Run : goal.ghosts-run_named-J-Run
ghosts-run_named-J-Run g a = record { table = a.started.table; opening = a.started.states }

abbrev pub ghosts-run_named-J-NodeRun : goal.ghosts-run_named-J-NodeRun
ghosts-run_named-J-NodeRun g a = record { found = one_found; rules = λ _. one_rules; faults = λ _. 0; premise = λ _. Unit {0}; acts = a.blank.name }

abbrev pub ghosts-run_named-J-DeviceRun : goal.ghosts-run_named-J-DeviceRun
ghosts-run_named-J-DeviceRun g a = record { devices = three_devices a.stores.monitor.device a.stores.trail.device a.stores.blocks.device }

abbrev pub ghosts-run_named-J-MonitorRun : goal.ghosts-run_named-J-MonitorRun
ghosts-run_named-J-MonitorRun g a = record { before = first_records }
