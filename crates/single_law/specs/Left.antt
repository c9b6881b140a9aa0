-- What the outcomes of a run of one worker leave on the monitor trail, and the map that they come to.
use Rattle.std.specs.Prelude.{ℕ, List, Option, Some, None}
use Rattle.std.specs.List.{filter_map}
use Rattle.run_outcomes.specs.declared.outcome.Outcome.{Outcome}
use Rattle.run_outcomes.specs.declared.outcome.Told.{Told}
use Rattle.run_outcomes.specs.declared.outcome.Told.TheVariants.{Aborted, Committed, Full, Refused}
use Rattle.run_standing.specs.Made.{map_behind}
use Rattle.tmf_model.specs.RecordMap.{RecordMap}
use Rattle.tmf_model.specs.declared.script.Phase.{Phase}
use Rattle.tmf_model.specs.declared.transid.Transid.{Transid}
use Rattle.trail_files.specs.declared.monitor_record.MonitorRecord.{MonitorRecord}
use Rattle.trail_files.specs.declared.monitor_record.MonitorRecord.TheVariants.{Abort, Commit}

-- the record that an attempt leaves which came to this, if it leaves one
abbrev pub end_record : Transid → Told → Option MonitorRecord
end_record t (Committed place reads) = Some (Commit t)
end_record t Aborted = Some (Abort t)
end_record t (Full file key) = Some (Abort t)
end_record t (Refused op reason) = Some (Abort t)
end_record t _ = None

-- the records that outcomes leave, in their order
abbrev pub records_left : List Outcome → List MonitorRecord
records_left outcomes = filter_map (λ outcome. end_record outcome.tx outcome.told) outcomes

-- the map behind outcomes of a run: what the transactions among them that are committed make of this one
abbrev pub map_left : Phase → ℕ → List Outcome → RecordMap → RecordMap
map_left phase epoch outcomes map = map_behind phase epoch (records_left outcomes) map
