-- How often the lines of a call tell of a device that has failed, against the rise of its count of faults.
use Rattle.std.specs.Prelude.{◌≡◌, ◌==◌, ◌<◌, ℕ, true, false, List, length, map, slice_get, All, Option, Some, None}
use Rattle.std.specs.List.{AllByRecursion, filter, filter_map}
use Rattle.disk_model.specs.Fuse.{fuse_faults}
use Rattle.disk_model.specs.Held.{Held}
use Rattle.disk_model.specs.declared.fuse.Fuse.{Fuse}
use Rattle.run_outcomes.specs.Devices.{devices}
use Rattle.run_outcomes.specs.Run.{RoseBy}
use Rattle.tmf_lines.specs.Report.{node_device_name}
use Rattle.tmf_lines.specs.declared.line.DeviceName.{DeviceName}
use Rattle.tmf_lines.specs.declared.line.Line.{Line}
use Rattle.tmf_lines.specs.declared.line.Line.TheVariants.{AttemptFailed, DumpsFailed, Failed, Hanging, InDoubt, ListFailed, LoseFailed, RollFailed, RunFailed}
use Rattle.tmf_model.specs.Config.{IsValidConfig}
use Rattle.tmf_model.specs.Script.{IsValidAction}
use Rattle.tmf_model.specs.declared.config.Config.{Config}
use Rattle.tmf_model.specs.declared.script.Action.{Action}
use Rattle.tmf_model.specs.declared.script.Script.{Script}
use Rattle.tmf_cli.specs.Headline.{KeepsEveryCommit}
use Rattle.tmf_cli.specs.OutputLaw.{Candidate, Node, ToldBy}

-- the device that is named so as one of a trail or of a volume
abbrev pub plain_name : List ℕ → DeviceName
plain_name name = record { dumps = false; name = name }

-- the device of which a line tells that a call of it failed, by its printed name; that of a commit in doubt is the monitor trail's
abbrev pub failed_of : Line → Option DeviceName
failed_of (Failed action name) = Some (plain_name name)
failed_of (DumpsFailed volume) = Some (record { dumps = true; name = volume })
failed_of (RunFailed device) = Some device
failed_of (LoseFailed volume) = Some (plain_name volume)
failed_of (RollFailed volume device) = Some device
failed_of (ListFailed file name) = Some (plain_name name)
failed_of (AttemptFailed tx device) = Some device
failed_of (InDoubt tx device) = Some device
failed_of (Hanging tx device) = Some device
failed_of line = None

-- how often a device is named
abbrev pub times_named : ℕ → List ℕ → ℕ
times_named device named = length (filter (λ other. other == device) named)

-- the count of faults of the fuse with this number, where it is there, rose by so many, or up to the end of its type
abbrev pub RoseTimes : {D : Type 0} → (D → ℕ) → ℕ → List (Fuse D) → List (Fuse D) → ℕ → Type 0
RoseTimes {D} faults times old new device =
    (before after : Fuse D) → slice_get old device ≡ Some before → slice_get new device ≡ Some after → RoseBy times (fuse_faults faults before) (fuse_faults faults after)

-- Each line that tells of a failed call names a device of the bay, by its number, in their order; and each device has failed at least as often as it is named, but for a count that stands at the
-- end of its type.
pub record AreCounted {D : Type 0} (faults : D → ℕ) (config : Config) (lines : List Line) (old new : List (Fuse D)) : Type 0 where
  pub named : List ℕ
  pub names : filter_map failed_of lines ≡ map (node_device_name config) named
  pub there : length old ≡ devices → AllByRecursion (λ device. device < devices) named
  pub rose : (device : ℕ) → RoseTimes faults (times_named device named) old new device

-- what the law of the output gives of any row of actions of a valid script: its lines tell of no device more often than it has failed
abbrev pub CountsLaw : {D : Type 0} → (D → Held) → (D → ℕ) → Config → Type 0
CountsLaw {D} held faults config =
    (actions : List Action) (before after : Node) (old new : List (Fuse D)) (lines : List Line)
    → IsValidConfig config → All (IsValidAction config) actions → ToldBy held faults config actions before old lines after new → AreCounted faults config lines old new

-- The lines of the promise of a call tell of no device more often than it has failed in the call.
pub record CountsFailures {D : Type 0} (held : D → Held) (faults : D → ℕ) (script : Script) (candidates : Option (List Candidate)) (status : ℕ) (old new : List (Fuse D)) (sink : Type 0) (before after : List ℕ) : Type 0 where
  pub promise : KeepsEveryCommit held faults script candidates status old new sink before after
  pub counted : AreCounted faults script.config promise.lines old new
