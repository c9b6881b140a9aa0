-- What the records of the monitor trail are to a trail.
use Rattle.std.specs.Prelude.{◌%◌, ◌^◌, ◌==◌, ◌&&◌}
use Rattle.trail_files.specs.declared.monitor_record.MonitorRecord.{MonitorRecord}
use Rattle.trail_files.specs.Format.{Format}
use Rattle.trail_files.specs.MonitorFormat.{monitor_spelling, is_monitor_record}
use Rattle.trail_files.specs.MonitorOrder.{is_monitor_order, are_placed, may_monitor_end}

-- what monitor records are to a trail
abbrev pub monitor_format : Format MonitorRecord
monitor_format = record {
  valid = is_monitor_record;
  most = 64;
  number = λ item place. place % 2 ^ 64;
  spelling = monitor_spelling;
  in_order = λ records. is_monitor_order records && are_placed records;
  may_end = may_monitor_end;
  may_begin = λ file. file == 1;
}
