-- In which order the records of a run stand on the monitor trail.
use Rattle.std.specs.Prelude.{◌≡◌, ℕ, List, [], ◌∷◌, ◌++◌, length, Some, slice_get}
use Rattle.chronicle.specs.Histories.{IsHistory, states_after}
use Rattle.disk_model.specs.Devices.{DevicesTell, held_at}
use Rattle.disk_model.specs.declared.disk.Disk as disk
use Rattle.disk_model.specs.declared.fuse.Fuse.{Fuse}
use Rattle.node_machine.specs.Deeds.{Log}
use Rattle.node_machine.specs.Monitor.{IsLater, IsRequest, offered_car, recorded}
use Rattle.node_machine.specs.Node.{node}
use Rattle.node_machine.specs.Opening.{Found, monitor_part, opening_parts}
use Rattle.node_machine.specs.Parts.{MonitorPart}
use Rattle.node_machine.specs.Parts.PartState.{Monitor}
use Rattle.node_machine.specs.Same.{Among}
use Rattle.run_outcomes.specs.Devices.{devices, fuse_kind}
use Rattle.run_outcomes.specs.Run.{HasRun}
use Rattle.run_outcomes.specs.declared.outcome.Outcome.{Outcome}
use Rattle.run_standing.specs.Made.{HasMade}
use Rattle.run_standing.specs.NodeUp.{IsNodeUp}
use Rattle.tmf_model.specs.Config.{IsValidConfig}
use Rattle.tmf_model.specs.RecordMap.{RecordMap}
use Rattle.tmf_model.specs.declared.config.Config.{Config}
use Rattle.tmf_model.specs.declared.script.Phase.{Phase}
use Rattle.trail_files.specs.declared.monitor_record.MonitorRecord.{MonitorRecord}

-- each record ends a later attempt than those before it, of those of one worker
abbrev pub AreInRow : List MonitorRecord → Type 0
AreInRow [] = Unit {0}
AreInRow (x ∷ xs) = ((y : MonitorRecord) → Among xs y → IsLater x y) × AreInRow xs

-- each record ends an attempt of the run of this epoch
abbrev pub AreRequests : ℕ → List MonitorRecord → Type 0
AreRequests epoch xs = (x : MonitorRecord) → Among xs x → IsRequest epoch x

-- In every history the records that have landed, with those that are offered behind them, end attempts of the run, each a later one of its worker than those before.
abbrev pub OrderLaw : Type 0
OrderLaw =
    (found : Found) (log : Log) (s : MonitorPart) → IsHistory node (opening_parts found) log → slice_get (states_after node (opening_parts found) log) monitor_part ≡ Some (Monitor s)
    → AreInRow (recorded s.events ++ offered_car s.events) × AreRequests found.epoch (recorded s.events ++ offered_car s.events)

-- Behind a run over the devices of a node that is up the records that have landed, with those that were offered, end attempts of the run, those of one worker in the order of its attempts.
abbrev pub RowLaw : {D : Type 0} → disk.Ghosts D → Type 0
RowLaw {D} kind =
    (config : Config) (phase : Phase) (epoch : ℕ) (old new : List (Fuse D)) (outcomes : List Outcome) (list : List MonitorRecord) (map : RecordMap)
    → IsValidConfig config → length old ≡ devices → length new ≡ devices → DevicesTell kind.tells old → IsNodeUp config (held_at kind.held old) list map epoch
    → HasRun (fuse_kind kind) config phase epoch old new outcomes
    → (made : HasMade phase epoch kind.held config list map outcomes old new) × AreInRow (made.landed ++ made.offered)
