-- What is known of a node while its actions are carried out, and what one action makes of it.
use Rattle.std.specs.Prelude.{◌≡◌, ◌⊎◌, ℕ, zero, suc, ◌≤◌, List, [], ◌∷◌, length, slice_get, Option, Some, None}
use Rattle.disk_model.specs.Held.{Held}
use Rattle.disk_model.specs.declared.fuse.Fuse.{Fuse}
use Rattle.tmf_model.specs.declared.config.Config.{Config}
use Rattle.tmf_model.specs.declared.script.Action.{Action}
use Rattle.tmf_model.specs.declared.config.FileLine.{FileLine}
use Rattle.run_standing.specs.NodeUp.{IsNodeUp}
use Rattle.tmf_lines.specs.declared.line.Line.{Line}
use Rattle.tmf_lines.specs.declared.line.Line.TheVariants.{ListNotUp, ListFailed, ListDamaged}
use Rattle.tmf_cli.specs.declared.node.NodeState.{NodeState}
use Rattle.tmf_cli.specs.declared.node.Up.{Up}
use Rattle.tmf_lines.specs.Report.{device_name, file_name_of}
use Rattle.tmf_cli.specs.OutputLaw.{Node, Candidate, MayStand, Does, Breaks}
use Rattle.volume_recovery.specs.declared.errors.ListError.{ListError}
use Rattle.volume_recovery.specs.declared.errors.ListError.TheVariants as listing
use Rattle.volume_recovery.specs.Node.{TrailRests}
use Rattle.volume_recovery.specs.VolumeAnswers.{lost_among}
use Rattle.volume_recovery.specs.VolumeFormat.{IsNodeDevice}
use Rattle.volume_recovery.specs.VolumeNode.{volume_device}
use Rattle.keyed_file.specs.Volume.{IsLost, label_of}
use Rattle.block_cache.specs.LabelDamage.{IsFineLabel}
use Rattle.volume_restore.specs.Listed.{IsFineFile}
use Rattle.block_cache.specs.Volume.{RestsFor}
use Rattle.trail_files.specs.StandsFor.{IsNumber}
use Rattle.tmf_model.specs.declared.config.Volume.{Volume}
use Rattle.tmf_cli.specs.Countdown.{IsSwitched, KeepsCounts}
use Rattle.tmf_cli.specs.Lost.{AreLost}
use Rattle.disk_model.specs.Devices.{FuseRestarts, KeepTelling, StayInPlace, held_at}
use Rattle.disk_model.specs.declared.disk.Disk as disk

-- the node with this state, whose devices may stand for these
abbrev pub node_of : NodeState → Option (List Candidate) → Node
node_of state candidates = record { state = state; candidates = candidates }

-- each trail rests on its device, the monitor's too
abbrev pub TrailsRest : Config → (ℕ → Held) → Type 0
TrailsRest config held = (number : ℕ) → number ≤ length config.trails → TrailRests config held number

-- of each file the volume has no label, or a fine one, and then each block of the file is fine
abbrev pub AreReadable : Config → (ℕ → Held) → Type 0
AreReadable config held = (file : ℕ) (line : FileLine) → IsNumber config.files file line → IsLost (held (volume_device line.volume)) ⊎ IsFineFile config line.volume file (held (volume_device line.volume))

-- The devices of a node that is up: the trails rest, and the volumes; no label and no file is damaged; and the lost volumes are those that the node knows of.
pub record IsReady (config : Config) (held : ℕ → Held) (up : Up) : Type 0 where
  pub epoch : 1 ≤ up.epoch
  pub trails : TrailsRest config held
  pub volumes : (volume : ℕ) (line : Volume) → IsNumber config.volumes volume line → RestsFor (label_of config volume 1) (held (volume_device volume))
  pub labels : (volume : ℕ) (line : Volume) → IsNumber config.volumes volume line → IsLost (held (volume_device volume)) ⊎ IsFineLabel (label_of config volume 1) (held (volume_device volume))
  pub readable : AreReadable config held
  pub lost : AreLost config held up.lost

-- so are the devices, and where it is known what they may stand for, they rest with the one list and map that a node which is up has, and have lost the volumes that are named with these
abbrev pub RestsUp : {D : Type 0} → (D → Held) → Config → List (Fuse D) → Up → Option (List Candidate) → Type 0
RestsUp held config devices up None = IsReady config (held_at held devices) up
RestsUp held config devices up (Some standings) =
    IsReady config (held_at held devices) up × (s : Candidate) × (standings ≡ s ∷ []) × IsNodeUp config (held_at held devices) s.list s.map up.epoch × (lost_among (held_at held devices) (length config.volumes) ≡ s.lost)

-- so they do where the node is up
abbrev pub IfUp : {D : Type 0} → (D → Held) → Config → List (Fuse D) → Option Up → Option (List Candidate) → Type 0
IfUp held config devices None candidates = Unit {0}
IfUp held config devices (Some up) candidates = RestsUp held config devices up candidates

-- What is known between two actions.
pub record Knows {D : Type 0} (held : D → Held) (config : Config) (node : Node) (devices : List (Fuse D)) : Type 0 where
  pub stands : MayStand held config devices node.candidates
  pub up : IfUp held config devices node.state.up node.candidates

-- An action was done with these lines, and this is known behind it.
pub record HasDone {D : Type 0} (held : D → Held) (faults : D → ℕ) (config : Config) (action : Action) (node : Node) (old : List (Fuse D)) (lines : List Line) (state : NodeState) (new : List (Fuse D)) : Type 0 where
  pub candidates : Option (List Candidate)
  pub does : Does held faults config action node old lines (node_of state candidates) new
  pub knows : Knows held config (node_of state candidates) new

-- Memory lacked in an action: it was broken off, or its lines were not made. None of them is printed.
pub record HasBroken {D : Type 0} (held : D → Held) (faults : D → ℕ) (config : Config) (action : Action) (node : Node) (old new : List (Fuse D)) : Type 0 where
  pub after : Node
  pub due : List Line
  pub breaks : Breaks held faults config action node old due after new
  pub stands : MayStand held config new after.candidates

-- the epoch of a node that is up is one that a Start begins
abbrev pub IsBounded : Option Up → Type 0
IsBounded None = Unit {0}
IsBounded (Some up) = 1 ≤ up.epoch

-- so many restarts lead from one state of a fuse to another; where there is none, it was at most switched on or off
abbrev pub RestartsTimes : {D : Type 0} → (Fuse D → Fuse D → Type 0) → ℕ → Fuse D → Fuse D → Type 0
RestartsTimes restarts zero old new = IsSwitched old new
RestartsTimes {D} restarts (suc times) old new = (middle : Fuse D) × RestartsTimes restarts times old middle × restarts middle new

-- the devices that are none of the configuration's are as they were
abbrev pub SameOthers : {D : Type 0} → Config → List (Fuse D) → List (Fuse D) → Type 0
SameOthers {D} config old new = (number : ℕ) → ¬ IsNodeDevice config number → slice_get new number ≡ slice_get old number

-- they are as they were, or as some restarts leave them; their fuses may have been switched on and off
abbrev pub OthersRestarted : {D : Type 0} → Config → (Fuse D → Fuse D → Type 0) → List (Fuse D) → List (Fuse D) → Type 0
OthersRestarted {D} config restarts old new = (number : ℕ) (before after : Fuse D) → ¬ IsNodeDevice config number → slice_get old number ≡ Some before → slice_get new number ≡ Some after
    → (times : ℕ) × RestartsTimes restarts times before after

-- What an action, or a row of them, leaves of the devices of a bay: each is the same one, in its place, and tells its state as before; the counts are kept, no call was cut where nothing is
-- to be cut off, and the countdown is off; and the devices that are none of the configuration's are as they were, or as some restarts leave them.
pub record LeavesBay {D : Type 0} (kind : disk.Ghosts D) (config : Config) (unkilled : Type 0) (old new : List (Fuse D)) : Type 0 where
  pub devices : StayInPlace kind.is_same old new
  pub tells : KeepTelling kind.tells old new
  pub counts : KeepsCounts kind.faults unkilled old new
  pub others : OthersRestarted config (FuseRestarts kind) old new

-- the line of a listing that was refused
abbrev pub IsListLine : Config → ℕ → ListError → Line → Type 0
IsListLine config file (listing.Failed device) line = line ≡ ListFailed (file_name_of config file) (device_name config device)
IsListLine config file (listing.Damaged device damage) line = line ≡ ListDamaged (file_name_of config file) (device_name config device) damage
IsListLine config file listing.Lost line = line ≡ ListNotUp (file_name_of config file)
IsListLine config file listing.NoMemory line = ⊥
