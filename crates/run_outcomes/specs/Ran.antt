-- How what a run leaves, and what its outcomes tell, is a run of one history.
use Rattle.std.specs.Prelude.{◌≡◌, ℕ, List, ◌++◌, Some, slice_get}
use Rattle.chronicle.specs.Histories.{states_after}
use Rattle.disk_model.specs.declared.disk.Disk as disk
use Rattle.node_machine.specs.Deeds.{Log}
use Rattle.node_machine.specs.Monitor.{offered_car, recorded}
use Rattle.node_machine.specs.Node.{node}
use Rattle.node_machine.specs.Opening.{Found, opening_parts}
use Rattle.node_machine.specs.Same.{Among}
use Rattle.tmf_model.specs.declared.config.Config.{Config}
use Rattle.tmf_model.specs.declared.script.Phase.{Phase}
use Rattle.trail_files.specs.declared.monitor_record.MonitorRecord.{MonitorRecord}
use Rattle.run_outcomes.specs.Devices.{told_by}
use Rattle.run_outcomes.specs.Ends.{monitor_events}
use Rattle.run_outcomes.specs.Found.{IsFoundOver}
use Rattle.run_outcomes.specs.Outcomes.{AreOutcomesOf}
use Rattle.run_outcomes.specs.Left.{AreLeft}
use Rattle.run_outcomes.specs.Run.{HasRun, account_of}
use Rattle.run_outcomes.specs.Told.{AreTold, IsRecordOf}
use Rattle.run_outcomes.specs.Within.{AreWithin}
use Rattle.run_outcomes.specs.declared.outcome.Outcome.{Outcome}

-- Each of the outcomes is asked for and is told by what stands in the history, what has begun was begun within the limit of events, and each record of the monitor trail is of one
-- of them.
pub record AreOutcomesIn {D : Type 0} (kind : disk.Ghosts D) (config : Config) (phase : Phase) (epoch : ℕ) (old : List D) (found : Found) (log : Log) (outcomes : List Outcome) : Type 0 where
  pub attempts : AreOutcomesOf phase epoch outcomes
  pub told : AreTold (account_of kind config phase epoch (λ number. slice_get old number) found log) outcomes
  pub within : AreWithin found log
  pub records : (item : MonitorRecord)
      → Among (recorded (monitor_events (states_after node (opening_parts found) log)) ++ offered_car (monitor_events (states_after node (opening_parts found) log))) item → IsRecordOf outcomes item

-- What was found of the devices, what is left of them, and what is told of the outcomes make a run.
abbrev pub RanLaw : {D : Type 0} → disk.Ghosts D → Type 0
RanLaw {D} kind =
    (config : Config) (phase : Phase) (epoch : ℕ) (old new : List D) (outcomes : List Outcome) (found : Found) (faults : ℕ → ℕ) (log : Log)
    → IsFoundOver config (told_by kind old) epoch found
    → ((number : ℕ) (device : D) → slice_get old number ≡ Some device → faults number ≡ kind.faults device)
    → AreLeft kind (opening_parts found) found faults (λ number. slice_get old number) log new
    → AreOutcomesIn kind config phase epoch old found log outcomes
    → HasRun kind config phase epoch old new outcomes
