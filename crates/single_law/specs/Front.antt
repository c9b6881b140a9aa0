-- What is so of the outcomes of a run of one worker before the first that ends it: each ends as its item does on the map that those before it leave.
use Rattle.std.specs.Prelude.{◌≡◌, ℕ, ◌<◌, false, List, [], ◌∷◌, length, take, slice_get, Some}
use Rattle.disk_model.specs.Devices.{DevicesTell, held_at}
use Rattle.disk_model.specs.declared.disk.Disk as disk
use Rattle.disk_model.specs.declared.fuse.Fuse.{Fuse}
use Rattle.run_outcomes.specs.Devices.{devices, fuse_kind}
use Rattle.run_outcomes.specs.Outcomes.{is_last}
use Rattle.run_outcomes.specs.Run.{HasRun}
use Rattle.run_outcomes.specs.declared.outcome.Outcome.{Outcome}
use Rattle.run_standing.specs.NodeUp.{IsNodeUp}
use Rattle.tmf_model.specs.Config.{IsValidConfig}
use Rattle.tmf_model.specs.RecordMap.{RecordMap}
use Rattle.tmf_model.specs.declared.config.Config.{Config}
use Rattle.tmf_model.specs.declared.script.Item.{Item}
use Rattle.tmf_model.specs.declared.script.Phase.{Phase}
use Rattle.trail_files.specs.declared.monitor_record.MonitorRecord.{MonitorRecord}
use Rattle.single_law.specs.Single.{HasEnded}

-- each of the first so many outcomes ends so
pub record HaveEndedTo (config : Config) (phase : Phase) (epoch : ℕ) (items : List Item) (list : List MonitorRecord) (map : RecordMap) (outcomes : List Outcome) (count : ℕ) : Type 0 where
  pub each : (number : ℕ) (outcome : Outcome) → number < count → slice_get outcomes number ≡ Some outcome → HasEnded config phase epoch items list map (take number outcomes) number outcome

-- In a run of one worker over the devices of a node that is up, of which none of the first so many outcomes is the last that the worker carries out, each of these ends so.
abbrev pub FrontLaw : {D : Type 0} → disk.Ghosts D → Type 0
FrontLaw {D} kind =
    (config : Config) (phase : Phase) (epoch : ℕ) (items : List Item) (old new : List (Fuse D)) (outcomes : List Outcome) (list : List MonitorRecord) (map : RecordMap)
    → IsValidConfig config → length old ≡ devices → length new ≡ devices → DevicesTell kind.tells old → IsNodeUp config (held_at kind.held old) list map epoch → phase.workers ≡ items ∷ []
    → HasRun (fuse_kind kind) config phase epoch old new outcomes
    → (count : ℕ) → ((number : ℕ) (outcome : Outcome) → number < count → slice_get outcomes number ≡ Some outcome → is_last outcome.told ≡ false)
    → HaveEndedTo config phase epoch items list map outcomes count
