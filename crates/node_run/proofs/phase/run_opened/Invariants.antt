use Rattle.std.specs.Prelude.{slice_get}
use Rattle.run_opening.specs.Found.{found_of}
use Rattle.run_states.specs.Begun.{Resting, device_in, faults_in}
use Rattle.trail_replay.specs.Rules.{rules_of}
use Rattle.node_run.proofs.phase.run_opened.Given as goal

-- the name carries what is kept of the devices
abbrev pub ghosts-run_as-J-Run : goal.ghosts-run_as-J-Run
ghosts-run_as-J-Run g a = record { table = a.start.started.table; opening = a.start.started.states }

abbrev pub ghosts-run_as-J-NodeRun : goal.ghosts-run_as-J-NodeRun
ghosts-run_as-J-NodeRun g a =
    let items = a.start.ready.opened.kept.items in
    record {
      found = found_of g.D.Disk a.run.config.now a.run.epoch items;
      rules = rules_of a.run.config.now;
      faults = faults_in g.D.Disk items;
      premise = λ n. Resting g.D.Disk a.start.ready.list (slice_get items n);
      acts = a.start.blank.name;
    }

abbrev pub ghosts-run_as-J-DeviceRun : goal.ghosts-run_as-J-DeviceRun
ghosts-run_as-J-DeviceRun g a = record { devices = device_in a.start.ready.opened.kept.items }

abbrev pub ghosts-run_as-J-MonitorRun : goal.ghosts-run_as-J-MonitorRun
ghosts-run_as-J-MonitorRun g a = record { before = a.start.ready.list }
