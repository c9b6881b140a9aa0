-- The law of the output: which lines each action prints, by the state of the node and by what its devices stand for, and what it leaves of both.
use Rattle.std.specs.Prelude.{◌≡◌, ◌≢◌, ◌⊎◌, ℕ, ◌≤◌, ◌<◌, true, false, max, List, [], ◌∷◌, ◌++◌, length, slice_get, flat_map, map, Contains, Option, Some, None, Ok, Err}
use Rattle.disk_model.specs.Held.{Held}
use Rattle.disk_model.specs.Devices.{AreImages, DeviceAt, HoldSame, RoseAt, SameBut, held_at}
use Rattle.disk_model.specs.declared.fuse.Fuse.{Fuse}
use Rattle.tmf_model.specs.declared.config.Config.{Config}
use Rattle.tmf_model.specs.declared.config.Volume.{Volume}
use Rattle.tmf_model.specs.declared.script.Action.{Action}
use Rattle.tmf_model.specs.declared.script.Action.TheVariants.{Format, Recover, Run, Lose, Rollforward, List as ListFile}
use Rattle.tmf_model.specs.declared.script.Phase.{Phase}
use Rattle.tmf_model.specs.Config.{IsDeclared}
use Rattle.tmf_model.specs.RecordMap.{RecordMap, empty_map, IsListing}
use Rattle.trail_files.specs.declared.monitor_record.MonitorRecord.{MonitorRecord}
use Rattle.trail_files.specs.declared.monitor_record.MonitorRecord.TheVariants.{Start}
use Rattle.trail_files.specs.StandsFor.{Base, IsNumber}
use Rattle.keyed_file.specs.Volume.{IsLost}
use Rattle.block_cache.specs.Created.{IsSurelyLost}
use Rattle.block_cache.specs.Volume.{HasBase}
use Rattle.volume_restore.specs.Bases.{volume_on}
use Rattle.volume_restore.specs.Formatted.{IsCleared, IsEmptied}
use Rattle.rollforward.specs.declared.errors.RollError.{RollError}
use Rattle.rollforward.specs.declared.errors.RollError.TheVariants as roll
use Rattle.rollforward.specs.RolledNode.{without}
use Rattle.rollforward.specs.Rolls.{IsFailure, IsRollDevice, IsRolledTo, MayRoll, TellsRoll}
use Rattle.volume_recovery.specs.declared.errors.RecoverError.{RecoverError}
use Rattle.volume_recovery.specs.declared.errors.RecoverError.TheVariants as recovery
use Rattle.volume_recovery.specs.declared.recovery.Recovered.{Recovered}
use Rattle.volume_recovery.specs.Losing.{MayLose}
use Rattle.volume_recovery.specs.Node.{next_epoch}
use Rattle.volume_recovery.specs.VolumeAnswers.{RecoversWithVolumes, lost_among}
use Rattle.volume_recovery.specs.VolumeFormat.{IsNodeDevice}
use Rattle.volume_recovery.specs.VolumeListing.{file_device}
use Rattle.volume_recovery.specs.VolumeLoop.{IsUsed}
use Rattle.volume_recovery.specs.VolumeNode.{StandsWithVolumes, dump_device, volume_device}
use Rattle.tmf_lines.specs.declared.line.ActionKind.TheVariants as asked
use Rattle.tmf_lines.specs.declared.line.Line.{Line}
use Rattle.tmf_lines.specs.declared.line.Line.TheVariants.{Formatted, Removed, LoseFailed, Rolled, RollNotUp, NotLost, NoDump, RollFailed, RollDamaged, NotUp, Failed, Damaged, EpochsSpent, ListNotUp, ListFailed, RunDamaged, RunFailed}
use Rattle.single_law.specs.Dumps.{DumpsGoOn, IsSurelyDumped}
use Rattle.tmf_cli.specs.Single.{IsSingle, items_of}
use Rattle.tmf_lines.specs.Report.{device_name, file_name_of, format_failure, listed_lines, node_device_name, recovered_lines, volume_name}
use Rattle.tmf_cli.specs.declared.node.NodeState.{NodeState}
use Rattle.tmf_cli.specs.declared.node.Up.{Up}
use Rattle.tmf_cli.specs.Countdown.{IsOn, KeepsCounts, Switches, kill_of}
use Rattle.tmf_cli.specs.RunLines.{run_lines}
use Rattle.single_law.specs.Front.{HaveEndedTo}
use Rattle.single_law.specs.Left.{records_left}
use Rattle.single_law.specs.Row.{AreInRow}
use Rattle.single_law.specs.Single.{HaveEnded}
use Rattle.run_outcomes.specs.Devices.{devices, fuse_kind}
use Rattle.node_machine.specs.Same.{Among}
use Rattle.run_outcomes.specs.Run.{HasNotRun, HasRun, IsUnfit, volumes_named}
use Rattle.run_outcomes.specs.Told.{IsRecordOf}
use Rattle.run_outcomes.specs.Outcomes.{is_last}
use Rattle.run_outcomes.specs.declared.outcome.Outcome.{Outcome}
use Rattle.run_outcomes.specs.declared.outcome.PhaseError.{PhaseError}
use Rattle.run_outcomes.specs.declared.outcome.PhaseError.TheVariants as phase_error
use Rattle.run_outcomes.specs.declared.outcome.Told.TheVariants.{Committed as ToldCommitted}
use Rattle.run_standing.specs.Made.{HasCommitted, map_behind}
use Rattle.run_standing.specs.NodeUp.{IsNodeUp}
use Rattle.run_standing.specs.Telling.{telling}
use Rattle.trail_files.specs.declared.damage.Damage.{Damage as DamageAt}
use Rattle.tmf_cli.specs.Lost.{IsPresent, is_lost_volume, none_lost, lost_flags, lost_with, up_for, up_with, with_volume}

-- this is so of one of them
abbrev pub OneOf : {T : Type 0} → (T → Type 0) → List T → Type 0
OneOf P [] = ⊥
OneOf P (x ∷ rest) = P x ⊎ OneOf P rest

-- a monitor list and a map for which images of the devices may stand, and the numbers of the volumes that these have lost, in rising order
pub record Candidate : Type 0 where
  pub list : List MonitorRecord
  pub map : RecordMap
  pub lost : List ℕ

-- The images stand for the list and the map, and have lost these volumes and no others.
pub record StandsAs (config : Config) (images : ℕ → Held) (s : Candidate) : Type 0 where
  pub stands : StandsWithVolumes config images s.list s.map
  pub lost : lost_among images (length config.volumes) ≡ s.lost

-- The node between two actions: its state, and what its devices may stand for, where that is known.
pub record Node : Type 0 where
  pub state : NodeState
  pub candidates : Option (List Candidate)

-- whatever a crash leaves of the devices stands for one of these, where they are known
abbrev pub MayStand : {D : Type 0} → (D → Held) → Config → List (Fuse D) → Option (List Candidate) → Type 0
MayStand held config devices None = Unit {0}
MayStand held config devices (Some standings) = (images : ℕ → Held) → AreImages held devices images → OneOf (StandsAs config images) standings

-- the node with this state of it, down
abbrev pub down : NodeState → NodeState
down state = record state { up = None }

-- what a standing becomes by records of a run, whose commits are those of the script's transactions
abbrev pub with_records : Phase → ℕ → List MonitorRecord → Candidate → Candidate
with_records phase epoch records s = record { list = s.list ++ records; map = map_behind phase epoch records s.map; lost = s.lost }

-- what it becomes by the Start of the next epoch
abbrev pub with_start : Candidate → Candidate
with_start s = record { list = s.list ++ Start (next_epoch s.list) ∷ []; map = s.map; lost = s.lost }

-- what may stand after a recovery that was stopped: all that could before, with the next Start or without it
abbrev pub after_stop : Option (List Candidate) → Option (List Candidate)
after_stop None = None
after_stop (Some standings) = Some (flat_map (λ s. s ∷ with_start s ∷ []) standings)

-- what it becomes by the loss of this volume: list and map stay
abbrev pub with_lost : Config → ℕ → Candidate → Candidate
with_lost config volume s = record { list = s.list; map = s.map; lost = lost_with config volume s.lost }

-- what may stand behind the loss of a volume: all that could before, without the volume
abbrev pub after_loss : Config → ℕ → Option (List Candidate) → Option (List Candidate)
after_loss config volume None = None
after_loss config volume (Some standings) = Some (map (with_lost config volume) standings)

-- behind one that was not whole: all that could before, with the volume or without it
abbrev pub after_part_loss : Config → ℕ → Option (List Candidate) → Option (List Candidate)
after_part_loss config volume None = None
after_part_loss config volume (Some standings) = Some (flat_map (λ s. s ∷ with_lost config volume s ∷ []) standings)

-- what it becomes by the rollforward of this volume: list and map stay
abbrev pub with_back : ℕ → Candidate → Candidate
with_back volume s = record { list = s.list; map = s.map; lost = without volume s.lost }

-- what may stand behind the rollforward of a volume: all that could before, with the volume
abbrev pub after_roll : ℕ → Option (List Candidate) → Option (List Candidate)
after_roll volume None = None
after_roll volume (Some standings) = Some (map (with_back volume) standings)

-- behind one whose device failed: all that could before, with the volume or without it
abbrev pub after_part_roll : ℕ → Option (List Candidate) → Option (List Candidate)
after_part_roll volume None = None
after_part_roll volume (Some standings) = Some (flat_map (λ s. s ∷ with_back volume s ∷ []) standings)

-- of what may stand, that of this list goes on, in which these volumes are lost, with the next Start
abbrev pub OneIsLeft : Option (List Candidate) → List MonitorRecord → List ℕ → Option (List Candidate) → Type 0
OneIsLeft None list lost after = after ≡ None
OneIsLeft (Some standings) list lost after =
    (map : RecordMap) × OneOf (λ s. s ≡ record { list = list; map = map; lost = lost }) standings × (after ≡ Some (with_start (record { list = list; map = map; lost = lost }) ∷ []))

-- what stands behind a format: the first Start alone, no records, and no volume is lost
abbrev pub formatted_candidate : Candidate
formatted_candidate = record { list = Start 1 ∷ []; map = empty_map; lost = [] }

-- a node behind a format: up, with the first epoch, with all its volumes, and with no records
abbrev pub formatted_node : Node
formatted_node = record {
  state = record { up = Some (record { epoch = 1; lost = none_lost }); formatted = true; printed = 0 };
  candidates = Some (formatted_candidate ∷ []);
}

-- a node behind a format that was refused: nothing is known of its devices
abbrev pub unformatted_node : Node → Node
unformatted_node node = record { state = record { up = None; formatted = false; printed = node.state.printed }; candidates = None }

-- a node behind a recovery that was stopped
abbrev pub stopped_node : Node → Node
stopped_node node = record { state = down node.state; candidates = after_stop node.candidates }

-- a node behind the loss of a volume, and behind one that was not whole: down
abbrev pub lost_node : Config → ℕ → Node → Node
lost_node config volume node = record { state = down node.state; candidates = after_loss config volume node.candidates }

abbrev pub part_lost_node : Config → ℕ → Node → Node
part_lost_node config volume node = record { state = down node.state; candidates = after_part_loss config volume node.candidates }

-- a node behind the rollforward of a volume: up, where it was, and so is the volume
abbrev pub rolled_node : ℕ → Node → Node
rolled_node volume node = record { state = with_volume volume node.state; candidates = after_roll volume node.candidates }

-- the state of a node behind one that was refused: as it was; but down where a device has failed or is damaged
abbrev pub unrolled_state : RollError → NodeState → NodeState
unrolled_state roll.NotLost state = state
unrolled_state roll.NoDump state = state
unrolled_state (roll.Failed device) state = down state
unrolled_state (roll.Damaged device damage) state = down state
unrolled_state roll.NoMemory state = state

-- what may stand behind it: all that could before, and, where a device has failed, also with the volume
abbrev pub after_no_roll : ℕ → RollError → Option (List Candidate) → Option (List Candidate)
after_no_roll volume roll.NotLost candidates = candidates
after_no_roll volume roll.NoDump candidates = candidates
after_no_roll volume (roll.Failed device) candidates = after_part_roll volume candidates
after_no_roll volume (roll.Damaged device damage) candidates = candidates
after_no_roll volume roll.NoMemory candidates = candidates

-- such a node
abbrev pub unrolled_node : ℕ → RollError → Node → Node
unrolled_node volume error node = record { state = unrolled_state error node.state; candidates = after_no_roll volume error node.candidates }

-- A loss of this volume has left the devices so, whole or not: whatever a crash leaves of them is as before, or the volume has no label; and every other device is as it was.
pub record LeavesLost {D : Type 0} (held : D → Held) (volume : ℕ) (old new : List (Fuse D)) : Type 0 where
  pub others : SameBut (volume_device volume) old new
  pub every : (left : ℕ → Held) → AreImages held new left → (images : ℕ → Held) × AreImages held old images × MayLose volume images left

-- the device with this number is one of these, and has failed: its count of faults rose
abbrev pub FailedAmong : {D : Type 0} → (ℕ → Type 0) → (D → ℕ) → List (Fuse D) → List (Fuse D) → ℕ → Type 0
FailedAmong Among faults old new device = Among device × RoseAt faults old new device

-- the device of a trail or of a volume has failed
abbrev pub HasFailed : {D : Type 0} → (D → ℕ) → Config → List (Fuse D) → List (Fuse D) → ℕ → Type 0
HasFailed faults config old new device = FailedAmong (IsUsed config) faults old new device

-- no outcome is one behind which its worker carries out no more of its items
abbrev pub AreSettled : List Outcome → Type 0
AreSettled outcomes = (outcome : Outcome) → Contains outcomes outcome → is_last outcome.told ≡ false

-- none of the first so many outcomes is such a one
abbrev pub AreSettledTo : ℕ → List Outcome → Type 0
AreSettledTo count outcomes = (number : ℕ) (outcome : Outcome) → number < count → slice_get outcomes number ≡ Some outcome → is_last outcome.told ≡ false

-- The outcomes of a single run over what stands so: each ends as its item does on the map that those before it leave, and their records are all that have landed.
pub record AreExact (config : Config) (phase : Phase) (epoch : ℕ) (outcomes : List Outcome) (s : Candidate) (landed offered : List MonitorRecord) : Type 0 where
  pub ended : HaveEnded config phase epoch (items_of phase) s.list s.map outcomes
  pub landed_are : landed ≡ records_left outcomes
  pub none_offered : offered ≡ []

-- Of what may stand before a run this goes on: with the records that have landed, or with those that were offered too. Each record is of an outcome, and each transaction that is told
-- as committed has its own at its place, and has read what stood there. Those of one worker stand in the order of its attempts. Of a single run each outcome before one that ends its worker ends as its item does on the
-- map that those before it leave; and where none ends it, they are exact.
pub record GoesOn (config : Config) (phase : Phase) (epoch : ℕ) (outcomes : List Outcome) (s : Candidate) (after : Option (List Candidate)) : Type 0 where
  pub landed : List MonitorRecord
  pub offered : List MonitorRecord
  pub records : (item : MonitorRecord) → Contains (landed ++ offered) item → IsRecordOf outcomes item
  pub committed : (outcome : Outcome) (place : ℕ) (reads : List (ℕ × Option (List ℕ))) → Contains outcomes outcome → outcome.told ≡ ToldCommitted place reads
      → HasCommitted phase epoch s.list s.map landed outcome.tx place reads
  pub row : AreInRow (landed ++ offered)
  pub ended : IsSingle phase → (count : ℕ) → AreSettledTo count outcomes → HaveEndedTo config phase epoch (items_of phase) s.list s.map outcomes count
  pub exact : IsSingle phase → AreSettled outcomes → AreExact config phase epoch outcomes s landed offered
  pub candidates : after ≡ Some (with_records phase epoch landed s ∷ with_records phase epoch (landed ++ offered) s ∷ [])

-- So one of them goes on, where it is known what may stand: the one with which the devices, as the run has opened them, are those of a node that is up, with nothing at risk.
abbrev pub OneGoesOn : Config → Phase → ℕ → (ℕ → Held) → List Outcome → Option (List Candidate) → Option (List Candidate) → Type 0
OneGoesOn config phase epoch held outcomes None after = after ≡ None
OneGoesOn config phase epoch held outcomes (Some standings) after =
    (s : Candidate) × OneOf (λ t. t ≡ s) standings × IsNodeUp config held s.list s.map epoch × GoesOn config phase epoch outcomes s after

-- no file of a dump is on any of them
abbrev pub AreCleared : {D : Type 0} → (D → Held) → Config → List (Fuse D) → Type 0
AreCleared held config devices = (volume : ℕ) → IsDeclared config.volumes volume → IsCleared (held_at held devices (dump_device volume))

-- What an action that makes no dump keeps, of the device of each volume's dumps. One that surely had no dump, whatever a crash leaves of it, has none; and one that surely had one has one.
pub record KeepsDumps {D : Type 0} (held : D → Held) (config : Config) (old new : List (Fuse D)) : Type 0 where
  pub none : (volume : ℕ) → IsDeclared config.volumes volume → IsSurelyLost (held_at held old (dump_device volume)) → IsSurelyLost (held_at held new (dump_device volume))
  pub kept : (volume : ℕ) → IsDeclared config.volumes volume → IsSurelyDumped config volume (held_at held old (dump_device volume)) → IsSurelyDumped config volume (held_at held new (dump_device volume))

-- A run is whole: the node was up, and each volume that an item names was there; no device was unfit; its outcomes are those of one history, which shows what is left of the devices; it prints them, and takes the
-- node down. The countdown is on in it where it is to be cut off, and is switched off behind it.
pub record RunsWhole {D : Type 0} (held : D → Held) (faults : D → ℕ) (config : Config) (phase : Phase) (node : Node) (old : List (Fuse D)) (lines : List Line) (after : Node) (new : List (Fuse D)) : Type 0 where
  pub up : Up
  pub was_up : up_for config phase node.state ≡ Some up
  pub opened : List (Fuse D)
  pub closed : List (Fuse D)
  pub on : Switches old opened
  pub armed : phase.kill ≢ None → IsOn opened
  pub off : Switches closed new
  pub all : (length opened ≡ devices) × (length closed ≡ devices)
  pub outcomes : List Outcome
  pub ran : HasRun (fuse_kind (telling held faults)) config phase up.epoch opened closed outcomes
  pub present : (volume : ℕ) → Among (volumes_named config phase) volume → IsPresent config (held_at held opened) volume
  pub fit : (device : ℕ) (damage : DamageAt) → IsUnfit (fuse_kind (telling held faults)) config phase up.epoch opened device damage → ⊥
  -- that these records are those of the history follows from the images, which both allow
  pub stands : OneGoesOn config phase up.epoch (held_at held opened) outcomes node.candidates after.candidates
  -- what it makes of the dumps of each volume, where it is known what the devices may stand for
  pub dumps : node.candidates ≢ None → (volume : ℕ) (line : Volume) → IsNumber config.volumes volume line → DumpsGoOn held config phase outcomes old new volume
  pub printed : lines ≡ run_lines config outcomes
  pub state : after.state ≡ down node.state

-- the line of a run of which no worker has begun
abbrev pub IsRunLine : Config → PhaseError → Line → Type 0
IsRunLine config (phase_error.Failed device) line = line ≡ RunFailed (node_device_name config device)
IsRunLine config (phase_error.Damaged device damage) line = line ≡ RunDamaged (node_device_name config device) damage
IsRunLine config phase_error.NoMemory line = ⊥

-- why none has: a device has failed; or there is damage, where it is not known what the devices stand for
abbrev pub IsUnrunFor : {D : Type 0} → (D → ℕ) → Option (List Candidate) → List (Fuse D) → List (Fuse D) → PhaseError → Type 0
IsUnrunFor faults candidates old new (phase_error.Failed device) = RoseAt faults old new device
IsUnrunFor faults candidates old new (phase_error.Damaged device damage) = candidates ≡ None
IsUnrunFor faults candidates old new phase_error.NoMemory = ⊥

-- a node behind such a run: down
abbrev pub down_node : Node → Node
down_node node = record { state = down node.state; candidates = node.candidates }

-- No worker of a run has begun: it tells which device has failed or is damaged, every device holds what it held, and the node is down.
pub record RunsNot {D : Type 0} (held : D → Held) (faults : D → ℕ) (config : Config) (phase : Phase) (node : Node) (old : List (Fuse D)) (lines : List Line) (after : Node) (new : List (Fuse D)) : Type 0 where
  pub up : Up
  pub was_up : up_for config phase node.state ≡ Some up
  pub opened : List (Fuse D)
  pub closed : List (Fuse D)
  pub on : Switches old opened
  pub armed : phase.kill ≢ None → IsOn opened
  pub off : Switches closed new
  pub error : PhaseError
  pub not_run : HasNotRun (fuse_kind (telling held faults)) config phase up.epoch opened closed error
  pub why : IsUnrunFor faults node.candidates old new error
  pub same : HoldSame held old new
  pub line : Line
  pub is_line : IsRunLine config error line
  pub printed : lines ≡ line ∷ []
  pub left : after ≡ down_node node

-- Memory lacked in a run: no worker has begun, and every device holds what it held; or it is whole, and its lines were not made.
abbrev pub BreaksRun : {D : Type 0} → (D → Held) → (D → ℕ) → Config → Phase → Node → List (Fuse D) → List Line → Node → List (Fuse D) → Type 0
BreaksRun held faults config phase node old lines after new =
    ((up_for config phase node.state ≢ None) × (lines ≡ []) × (after ≡ down_node node) × HoldSame held old new) ⊎ RunsWhole held faults config phase node old lines after new

-- what a recovery answers of images whose monitor trail spells this list
abbrev pub answer_of : Config → (ℕ → Held) → List MonitorRecord → Recovered
answer_of config images list = record { records = list; lost = lost_among images (length config.volumes); epoch = next_epoch list }

-- A recovery is whole: it read the records that the images of its restart spell, and prints those whose places were not printed before, and the volumes that the images have lost. The list goes
-- on by the next Start, the map stays the same, each volume that has a label is lowered, and no audit is of the new epoch (`answered`), also where it was not known what the devices may stand for.
pub record RecoversWhole {D : Type 0} (held : D → Held) (config : Config) (node : Node) (old : List (Fuse D)) (lines : List Line) (after : Node) (new : List (Fuse D)) : Type 0 where
  pub images : ℕ → Held
  pub left : AreImages held old images
  pub list : List MonitorRecord
  pub answered : RecoversWithVolumes held config images (Ok (answer_of config images list)) new
  pub left_epoch : next_epoch list ≤ 4294967295
  pub dumps : KeepsDumps held config old new
  pub cleared : AreCleared held config old → AreCleared held config new
  pub printed : lines ≡ recovered_lines config node.state.printed list (lost_among images (length config.volumes)) (next_epoch list)
  pub stands : OneIsLeft node.candidates list (lost_among images (length config.volumes)) after.candidates
  pub state : after.state ≡ record {
    up = Some (record { epoch = next_epoch list; lost = lost_flags (lost_among images (length config.volumes)) });
    formatted = true;
    printed = max node.state.printed (length list);
  }

-- the line of a recovery that was refused
abbrev pub IsRecoveryLine : Config → RecoverError → Line → Type 0
IsRecoveryLine config (recovery.Failed device) line = line ≡ Failed asked.Recover (device_name config device)
IsRecoveryLine config (recovery.Damaged device damage) line = line ≡ Damaged asked.Recover (device_name config device) damage
IsRecoveryLine config recovery.EpochsSpent line = line ≡ EpochsSpent
IsRecoveryLine config recovery.NoMemory line = ⊥

-- why a recovery is refused: a device of a trail or of a volume has failed; or there is damage, where it is not known what the devices may stand for; or no epoch is left
abbrev pub IsRefusedFor : {D : Type 0} → (D → ℕ) → Config → Node → List (Fuse D) → List (Fuse D) → RecoverError → Type 0
IsRefusedFor faults config node old new (recovery.Failed device) = HasFailed faults config old new device
IsRefusedFor faults config node old new (recovery.Damaged device damage) = node.candidates ≡ None
IsRefusedFor faults config node old new recovery.EpochsSpent = Unit {0}
IsRefusedFor faults config node old new recovery.NoMemory = ⊥

-- A recovery is refused. What is said of the images of its restart where damage is told, or that no epoch is left, is so of them, and then the devices hold them; and at any refusal no record
-- is lost of those that the monitor trail's image spells, each volume is on the way of its recovery, and each other device holds its image (`answered`).
pub record RecoversNot {D : Type 0} (held : D → Held) (faults : D → ℕ) (config : Config) (node : Node) (old : List (Fuse D)) (lines : List Line) (after : Node) (new : List (Fuse D)) : Type 0 where
  pub images : ℕ → Held
  pub left : AreImages held old images
  pub error : RecoverError
  pub answered : RecoversWithVolumes held config images (Err error) new
  pub why : IsRefusedFor faults config node old new error
  pub line : Line
  pub is_line : IsRecoveryLine config error line
  pub printed : lines ≡ line ∷ []
  pub stopped : after ≡ stopped_node node

-- A rollforward of this volume has left the devices so, whole or not: whatever a crash leaves of the volume's device is as before, or has no label, or says what the dump, the audit and the
-- commits give; and every other device holds what it held. Where the volume is not lost, its own does, too.
pub record LeavesRolled {D : Type 0} (held : D → Held) (config : Config) (volume : ℕ) (old new : List (Fuse D)) : Type 0 where
  pub same : (number : ℕ) → number ≢ volume_device volume → held_at held new number ≡ held_at held old number
  pub every : (left : ℕ → Held) → AreImages held new left → (images : ℕ → Held) × AreImages held old images × MayRoll config volume (held_at held old) images left
  pub shut : (IsLost (held_at held old (volume_device volume)) → ⊥) → HoldSame held old new

-- A rollforward is whole: the volume was lost, and says now what the dump, the audit and the commits gave, with this next position; list and map stay, and the node and the volume are up.
pub record RollsWhole {D : Type 0} (held : D → Held) (config : Config) (volume : ℕ) (node : Node) (old : List (Fuse D)) (lines : List Line) (after : Node) (new : List (Fuse D)) : Type 0 where
  pub declared : IsDeclared config.volumes volume
  pub up : Up
  pub was_up : node.state.up ≡ Some up
  pub was_lost : is_lost_volume up.lost volume ≡ true
  pub next : ℕ
  pub answered : IsRolledTo held config volume (held_at held old) new next
  pub printed : lines ≡ Rolled (volume_name config volume) next ∷ []
  pub rolled : after ≡ rolled_node volume node

-- the line of a rollforward that was refused
abbrev pub IsRollLine : Config → ℕ → RollError → Line → Type 0
IsRollLine config volume roll.NotLost line = line ≡ NotLost (volume_name config volume)
IsRollLine config volume roll.NoDump line = line ≡ NoDump (volume_name config volume)
IsRollLine config volume (roll.Failed device) line = line ≡ RollFailed (volume_name config volume) (node_device_name config device)
IsRollLine config volume (roll.Damaged device damage) line = line ≡ RollDamaged (volume_name config volume) (node_device_name config device) damage
IsRollLine config volume roll.NoMemory line = ⊥

-- why a rollforward of a node that is up is refused: the volume is not lost; or it is, and has no dump; or a device of which a rollforward asks has failed; or there is damage, where it is not
-- known what the devices stand for
abbrev pub IsUnrolledFor : {D : Type 0} → (D → ℕ) → Config → ℕ → Option (List Candidate) → Up → List (Fuse D) → List (Fuse D) → RollError → Type 0
IsUnrolledFor faults config volume candidates up old new roll.NotLost = is_lost_volume up.lost volume ≡ false
IsUnrolledFor faults config volume candidates up old new roll.NoDump = is_lost_volume up.lost volume ≡ true
IsUnrolledFor faults config volume candidates up old new (roll.Failed device) = FailedAmong (IsRollDevice config volume) faults old new device
IsUnrolledFor faults config volume candidates up old new (roll.Damaged device damage) = candidates ≡ None
IsUnrolledFor faults config volume candidates up old new roll.NoMemory = ⊥

-- A rollforward is refused: of the reasons that the devices give, the first that holds is told (`answered`). Only where a device has failed may anything have been written.
pub record RollsNot {D : Type 0} (held : D → Held) (faults : D → ℕ) (config : Config) (volume : ℕ) (node : Node) (old : List (Fuse D)) (lines : List Line) (after : Node) (new : List (Fuse D)) : Type 0 where
  pub up : Up
  pub was_up : node.state.up ≡ Some up
  pub error : RollError
  pub answered : TellsRoll config volume (held_at held old) error
  pub why : IsUnrolledFor faults config volume node.candidates up old new error
  pub unwritten : IsFailure error ⊎ HoldSame held old new
  pub line : Line
  pub is_line : IsRollLine config volume error line
  pub printed : lines ≡ line ∷ []
  pub refused : after ≡ unrolled_node volume error node

module _ {D : Type 0} (held : D → Held) (faults : D → ℕ) (config : Config) where
  -- one of these devices has failed in the action
  abbrev pub IsFailed : (ℕ → Type 0) → List (Fuse D) → List (Fuse D) → (ℕ → Line) → List Line → Type 0
  IsFailed Among old new line lines = (device : ℕ) × FailedAmong Among faults old new device × (lines ≡ line device ∷ [])

  abbrev pub Formats : Node → List (Fuse D) → List Line → Node → List (Fuse D) → Type 0
  Formats node old lines after new =
      ((lines ≡ Formatted ∷ []) × (after ≡ formatted_node) × AreCleared held config new)
      ⊎ (IsFailed (IsNodeDevice config) old new (format_failure config) lines × (after ≡ unformatted_node node))

  abbrev pub Recovers : Node → List (Fuse D) → List Line → Node → List (Fuse D) → Type 0
  Recovers node old lines after new =
      ((node.state.formatted ≡ false) × (lines ≡ NotUp asked.Recover ∷ []) × (after ≡ node) × (new ≡ old))
      ⊎ ((node.state.formatted ≡ true) × RecoversWhole held config node old lines after new)
      ⊎ ((node.state.formatted ≡ true) × RecoversNot held faults config node old lines after new)

  abbrev pub Runs : Phase → Node → List (Fuse D) → List Line → Node → List (Fuse D) → Type 0
  Runs phase node old lines after new =
      ((up_for config phase node.state ≡ None) × (lines ≡ NotUp asked.Run ∷ []) × (after ≡ node) × (new ≡ old))
      ⊎ RunsWhole held faults config phase node old lines after new
      ⊎ RunsNot held faults config phase node old lines after new

  -- A volume is lost, also of a node that is down: its device has no file. Or the device has failed in the action.
  abbrev pub Loses : ℕ → Node → List (Fuse D) → List Line → Node → List (Fuse D) → Type 0
  Loses volume node old lines after new =
      LeavesLost held volume old new
      × (((lines ≡ Removed (volume_name config volume) ∷ []) × DeviceAt (λ d. IsEmptied (held d)) new (volume_device volume) × (after ≡ lost_node config volume node))
      ⊎ (IsFailed (λ device. device ≡ volume_device volume) old new (λ device. LoseFailed (volume_name config volume)) lines × (after ≡ part_lost_node config volume node)))

  -- A rollforward of a node that is down is not begun. One of a node that is up is whole or refused.
  abbrev pub Rolls : ℕ → Node → List (Fuse D) → List Line → Node → List (Fuse D) → Type 0
  Rolls volume node old lines after new =
      ((node.state.up ≡ None) × (lines ≡ RollNotUp (volume_name config volume) ∷ []) × (after ≡ node) × (new ≡ old))
      ⊎ (LeavesRolled held config volume old new × (RollsWhole held config volume node old lines after new ⊎ RollsNot held faults config volume node old lines after new))

  -- what is listed is the map's, where what the devices stand for is known; else it is what the selected slots of the file's volume spell
  abbrev pub ListsOf : Option (List Candidate) → ℕ → List (Fuse D) → List (List ℕ × List ℕ) → Type 0
  ListsOf None file devices entries = (base : Base) → HasBase config (volume_on config file) (held_at held devices (file_device config file)) (Some base) → IsListing base.records file entries
  ListsOf (Some standings) file devices entries = OneOf (λ s. IsListing s.map file entries) standings

  abbrev pub Lists : ℕ → Node → List (Fuse D) → List Line → Node → List (Fuse D) → Type 0
  Lists file node old lines after new =
      ((up_with config file node.state ≡ None) × (lines ≡ ListNotUp (file_name_of config file) ∷ []) × (after ≡ node) × (new ≡ old))
      ⊎ ((up_with config file node.state ≢ None) × (after ≡ node) × HoldSame held old new
      × (((entries : List (List ℕ × List ℕ)) × ListsOf node.candidates file old entries × (lines ≡ listed_lines (file_name_of config file) entries))
      ⊎ IsFailed (λ device. device ≡ file_device config file) old new (λ device. ListFailed (file_name_of config file) (device_name config device)) lines))

  -- the action printed these lines, and left the node and its devices so
  abbrev pub Does : Action → Node → List (Fuse D) → List Line → Node → List (Fuse D) → Type 0
  Does Format node old lines after new = Formats node old lines after new
  Does (Recover kill) node old lines after new = Recovers node old lines after new
  Does (Run phase) node old lines after new = Runs phase node old lines after new
  Does (Lose volume) node old lines after new = Loses volume node old lines after new
  Does (Rollforward volume kill) node old lines after new = Rolls volume node old lines after new
  Does (ListFile file) node old lines after new = Lists file node old lines after new

  -- The actions printed these lines, one after the other, each from what the one before it has left. Between two of them the devices stand for what they may, no count of faults
  -- has fallen, no call was cut in an action without `kill`, and the countdown is off.
  abbrev pub ToldBy : List Action → Node → List (Fuse D) → List Line → Node → List (Fuse D) → Type 0
  ToldBy [] node old lines after new = (lines ≡ []) × (after ≡ node) × (new ≡ old)
  ToldBy (action ∷ rest) node old lines after new =
      (first more : List Line) × (middle : Node) × (between : List (Fuse D))
      × Does action node old first middle between × MayStand held config between middle.candidates × KeepsCounts faults (kill_of action ≡ None) old between × ToldBy rest middle between more after new × (lines ≡ first ++ more)

  -- The script ended in this action, for want of memory. It had these lines to print, and left the node so.
  abbrev pub Breaks : Action → Node → List (Fuse D) → List Line → Node → List (Fuse D) → Type 0
  Breaks Format node old lines after new = (lines ≡ []) × (after ≡ unformatted_node node)
  Breaks (Recover kill) node old lines after new = (lines ≡ []) × (after ≡ stopped_node node)
  Breaks (Run phase) node old lines after new = ((up_for config phase node.state ≡ None) × (lines ≡ []) × (after ≡ node) × (new ≡ old)) ⊎ BreaksRun held faults config phase node old lines after new
  Breaks (Lose volume) node old lines after new = (lines ≡ []) × (after ≡ node) × (new ≡ old)
  Breaks (Rollforward volume kill) node old lines after new = (lines ≡ []) × (after ≡ node) × HoldSame held old new
  Breaks (ListFile file) node old lines after new = (lines ≡ []) × (after ≡ node) × HoldSame held old new
