use Rattle.std.proofs.Common.{◌≡◌, ◌+◌, ◌^◌, ◌<◌, ◌++◌, List, length, IsTrue}
use Rattle.std.specs.Prelude.{MatchBool}
use Rattle.node_machine.specs.Law.{EndsWithStart}
use Rattle.trail_files.specs.declared.monitor_record.MonitorRecord.{MonitorRecord}
use Rattle.trail_files.specs.Calls.{KeepsContent}
use Rattle.trail_files.specs.Content.{Placed, records_in}
use Rattle.trail_files.specs.Trail.{Ahead, Reads, records_left}
use Rattle.trail_replay.specs.Rules.{monitor_formats}
use Rattle.run_opening.proofs.monitor.count_records.Given as goal

abbrev pub invariant-loop-item : goal.invariant-loop-item
invariant-loop-item g l = record {
  list : (list : List MonitorRecord) → IsTrue (g.D.Disk.tells l.initial.trail.device) → Reads g.D.Disk.held monitor_formats l.initial.trail list
      → (rest : List (Placed MonitorRecord)) × Ahead g.D.Disk.held monitor_formats l.trail l.cursor rest × (read : List MonitorRecord) × (read ++ records_in rest ≡ list)
      × (l.count.places ≡ length read) × MatchBool l.count.ends (EndsWithStart l.epoch read) (EndsWithStart l.epoch read → ⊥);
  short : l.count.places + 2 ^ 20 < 2 ^ 64;
  frame : KeepsContent g.D.Disk monitor_formats l.initial.trail l.trail;
}

abbrev pub decreases-loop-item : goal.decreases-loop-item
decreases-loop-item g l = records_left l.trail l.cursor
