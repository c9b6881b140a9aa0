use Rattle.std.proofs.Common.{◌≡◌, ◌++◌, List, IsTrue}
use Rattle.trail_files.specs.declared.monitor_record.MonitorRecord.{MonitorRecord}
use Rattle.trail_files.specs.Content.{Content, Placed, records_in}
use Rattle.trail_files.specs.Holds.{Holds, Keeps}
use Rattle.trail_files.specs.Trail.{Reads, Ahead, records_left}
use Rattle.trail_replay.specs.Rules.{monitor_formats}
use Rattle.volume_recovery.proofs.monitor.read_records.Given as goal

abbrev pub invariant-loop-records : goal.invariant-loop-records
invariant-loop-records g l = record {
  told : (list : List MonitorRecord) → IsTrue (g.M.Disk.tells l.initial.monitor.device) → Reads g.M.Disk.held monitor_formats l.initial.monitor list
      → (rest : List (Placed MonitorRecord)) × Ahead g.M.Disk.held monitor_formats l.monitor l.cursor rest × (l.records.items ++ records_in rest ≡ list);
  holds : (content : Content MonitorRecord) → Holds g.M.Disk monitor_formats l.initial.monitor content → Holds g.M.Disk monitor_formats l.monitor content;
  keeps : Keeps g.M.Disk l.initial.monitor l.monitor;
  same : g.M.Disk.held l.monitor.device ≡ g.M.Disk.held l.initial.monitor.device;
  phase : l.monitor.phase ≡ l.initial.monitor.phase;
}

abbrev pub decreases-loop-records : goal.decreases-loop-records
decreases-loop-records g l = records_left l.monitor l.cursor
