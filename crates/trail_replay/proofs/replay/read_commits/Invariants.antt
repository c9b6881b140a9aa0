use Rattle.std.proofs.Common.{◌≡◌, ◌++◌, List}
use Rattle.trail_files.specs.declared.monitor_record.MonitorRecord.{MonitorRecord}
use Rattle.trail_files.specs.Content.{Content, Placed, records_in}
use Rattle.trail_files.specs.Holds.{Holds, Keeps}
use Rattle.trail_files.specs.Recovered.{commits_of}
use Rattle.trail_files.specs.Trail.{Ahead, records_left}
use Rattle.trail_replay.specs.Rules.{monitor_formats}
use Rattle.trail_replay.specs.Landed.{IsReadAs}
use Rattle.trail_replay.proofs.replay.read_commits.Given as goal

abbrev pub invariant-loop-transids : goal.invariant-loop-transids
invariant-loop-transids g l = record {
  told : (list : List MonitorRecord) → IsReadAs g.D.Disk monitor_formats l.initial.monitor list
      → (rest : List (Placed MonitorRecord)) × Ahead g.D.Disk.held monitor_formats l.monitor l.cursor rest
      × (read : List MonitorRecord) × (read ++ records_in rest ≡ list) × (l.transids.items ≡ commits_of read);
  holds : (content : Content MonitorRecord) → Holds g.D.Disk monitor_formats l.initial.monitor content → Holds g.D.Disk monitor_formats l.monitor content;
  keeps : Keeps g.D.Disk l.initial.monitor l.monitor;
  same : g.D.Disk.held l.monitor.device ≡ g.D.Disk.held l.initial.monitor.device;
  phase : l.monitor.phase ≡ l.initial.monitor.phase;
}

abbrev pub decreases-loop-transids : goal.decreases-loop-transids
decreases-loop-transids g l = records_left l.monitor l.cursor
