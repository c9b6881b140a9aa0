-- The law of the output over any devices, also those that do not tell what they hold, as the files of a folder do not: which lines each action may print by the state of the node, what each line
-- that tells of a failed device has for its cause, and the state that the action leaves.
use Rattle.std.specs.Prelude.{◌≡◌, ◌≢◌, ◌⊎◌, ℕ, ◌≤◌, true, false, max, List, [], ◌∷◌, ◌++◌, length, Some, None, Ok, Err}
use Rattle.disk_model.specs.Devices.{RoseAt, SameBut}
use Rattle.disk_model.specs.declared.disk.Disk as disk
use Rattle.disk_model.specs.declared.fuse.Fuse.{Fuse}
use Rattle.tmf_model.specs.declared.config.Config.{Config}
use Rattle.tmf_model.specs.declared.script.Action.{Action}
use Rattle.tmf_model.specs.declared.script.Action.TheVariants.{Format, Recover, Run, Lose, Rollforward, List as ListFile}
use Rattle.tmf_model.specs.declared.script.Phase.{Phase}
use Rattle.tmf_model.specs.declared.script.Script.{Script}
use Rattle.tmf_model.specs.Script.{IsValidScript}
use Rattle.trail_files.specs.declared.monitor_record.MonitorRecord.{MonitorRecord}
use Rattle.run_outcomes.specs.Devices.{fuse_kind}
use Rattle.run_outcomes.specs.Run.{HasNotRun, HasRun, IsExact}
use Rattle.run_outcomes.specs.declared.outcome.Outcome.{Outcome}
use Rattle.run_outcomes.specs.declared.outcome.PhaseError.{PhaseError}
use Rattle.run_outcomes.specs.declared.outcome.PhaseError.TheVariants as phase_error
use Rattle.rollforward.specs.declared.errors.RollError.{RollError}
use Rattle.rollforward.specs.declared.errors.RollError.TheVariants as roll
use Rattle.rollforward.specs.Rolls.{IsRollDevice}
use Rattle.volume_recovery.specs.declared.errors.ListError.{ListError}
use Rattle.volume_recovery.specs.declared.errors.ListError.TheVariants as listing
use Rattle.volume_recovery.specs.declared.errors.RecoverError.{RecoverError}
use Rattle.volume_recovery.specs.declared.errors.RecoverError.TheVariants as recovery
use Rattle.volume_recovery.specs.VolumeFormat.{IsNodeDevice}
use Rattle.volume_recovery.specs.VolumeListing.{file_device}
use Rattle.volume_recovery.specs.VolumeNode.{volume_device}
use Rattle.tmf_lines.specs.declared.line.ActionKind.TheVariants as asked
use Rattle.tmf_lines.specs.declared.line.Line.{Line}
use Rattle.tmf_lines.specs.declared.line.Line.TheVariants.{Formatted, Removed, LoseFailed, Rolled, RollNotUp, NotUp, ListNotUp}
use Rattle.tmf_lines.specs.declared.output.GiveFault.{GiveFault}
use Rattle.tmf_lines.specs.declared.output.GiveFault.TheVariants.{NoMemory}
use Rattle.tmf_lines.specs.Line.{lines_text, IsNotGiven}
use Rattle.tmf_lines.specs.Script.{IsScriptOf}
use Rattle.tmf_lines.specs.Report.{file_name_of, format_failure, listed_lines, recovered_lines, volume_name}
use Rattle.tmf_edges.specs.Moves.{AppendsPart}
use Rattle.tmf_cli.specs.declared.node.NodeState.{NodeState}
use Rattle.tmf_cli.specs.declared.node.Up.{Up}
use Rattle.tmf_cli.specs.BetweenActions.{IsListLine}
use Rattle.tmf_cli.specs.Countdown.{IsOn, KeepsCounts, OnceSwitched, Switches, kill_of}
use Rattle.tmf_cli.specs.Counts.{AreCounted}
use Rattle.tmf_cli.specs.Ending.{EndsUntouched, opening}
use Rattle.tmf_cli.specs.Lost.{lost_flags, up_for, up_with, with_volume}
use Rattle.tmf_cli.specs.OutputLaw.{FailedAmong, HasFailed, IsFailed, IsRecoveryLine, IsRollLine, IsRunLine, down, formatted_node, unrolled_state}
use Rattle.tmf_cli.specs.RunLines.{run_lines}

-- the state before the first action: down, with nothing printed, as if behind a whole format
abbrev pub first_state : NodeState
first_state = (opening None).state

module _ {D : Type 0} (kind : disk.Ghosts D) (config : Config) where
  -- A recovery is whole: of some list it prints the records whose places were not printed before, and then some volumes as lost, and an epoch. The node is up with these.
  pub record PrintsRecovery (state : NodeState) (lines : List Line) (after : NodeState) : Type 0 where
    pub list : List MonitorRecord
    pub lost : List ℕ
    pub epoch : ℕ
    pub begun : 1 ≤ epoch
    pub few : epoch ≤ 4294967295
    pub printed : lines ≡ recovered_lines config state.printed list lost epoch
    pub left : after ≡ record { up = Some (record { epoch = epoch; lost = lost_flags lost }); formatted = true; printed = max state.printed (length list) }

  -- A recovery is refused, for this reason. A device that it tells to have failed is the node's, and has failed. The node is down.
  pub record PrintsNoRecovery (state : NodeState) (old : List (Fuse D)) (lines : List Line) (after : NodeState) (new : List (Fuse D)) : Type 0 where
    pub error : RecoverError
    pub line : Line
    pub is_line : IsRecoveryLine config error line
    pub printed : lines ≡ line ∷ []
    pub failed : (device : ℕ) → error ≡ recovery.Failed device → HasFailed kind.faults config old new device
    pub left : after ≡ down state

  -- The outcomes of a run of a node that was up, and its devices, are those of one history. It prints them, and takes the node down. The countdown is on in it where it is to be cut off,
  -- and is switched off behind it.
  pub record PrintsRun (phase : Phase) (state : NodeState) (old : List (Fuse D)) (lines : List Line) (after : NodeState) (new : List (Fuse D)) : Type 0 where
    pub up : Up
    pub was_up : up_for config phase state ≡ Some up
    pub opened : List (Fuse D)
    pub closed : List (Fuse D)
    pub on : Switches old opened
    pub armed : phase.kill ≢ None → IsOn opened
    pub off : Switches closed new
    pub outcomes : List Outcome
    pub ran : HasRun (fuse_kind kind) config phase up.epoch opened closed outcomes
    pub exact : IsExact (fuse_kind kind) config phase up.epoch opened (Ok outcomes)
    pub printed : lines ≡ run_lines config outcomes
    pub left : after ≡ down state

  -- No worker of a run has begun, for this reason. A device that it tells to have failed has failed, and each holds what it held. The node is down.
  pub record PrintsNoRun (phase : Phase) (state : NodeState) (old : List (Fuse D)) (lines : List Line) (after : NodeState) (new : List (Fuse D)) : Type 0 where
    pub up : Up
    pub was_up : up_for config phase state ≡ Some up
    pub opened : List (Fuse D)
    pub closed : List (Fuse D)
    pub on : Switches old opened
    pub armed : phase.kill ≢ None → IsOn opened
    pub off : Switches closed new
    pub error : PhaseError
    pub not_run : HasNotRun (fuse_kind kind) config phase up.epoch opened closed error
    pub exact : IsExact (fuse_kind kind) config phase up.epoch opened (Err error)
    pub failed : (device : ℕ) → error ≡ phase_error.Failed device → RoseAt kind.faults old new device
    pub line : Line
    pub is_line : IsRunLine config error line
    pub printed : lines ≡ line ∷ []
    pub left : after ≡ down state

  -- A rollforward of a node that was up is refused, for this reason. A device that it tells to have failed is one that a rollforward of the volume asks, and has failed.
  pub record PrintsNoRoll (volume : ℕ) (state : NodeState) (old : List (Fuse D)) (lines : List Line) (after : NodeState) (new : List (Fuse D)) : Type 0 where
    pub error : RollError
    pub line : Line
    pub is_line : IsRollLine config volume error line
    pub printed : lines ≡ line ∷ []
    pub failed : (device : ℕ) → error ≡ roll.Failed device → FailedAmong (IsRollDevice config volume) kind.faults old new device
    pub left : after ≡ unrolled_state error state

  -- A listing of a file whose volume is up is refused, for this reason. A device that it tells to have failed is the file's, and has failed.
  pub record PrintsNoList (file : ℕ) (old : List (Fuse D)) (lines : List Line) (new : List (Fuse D)) : Type 0 where
    pub error : ListError
    pub line : Line
    pub is_line : IsListLine config file error line
    pub printed : lines ≡ line ∷ []
    pub failed : (device : ℕ) → error ≡ listing.Failed device → (device ≡ file_device config file) × RoseAt kind.faults old new device

  -- an action that was not begun prints this line, and leaves all as it was
  abbrev pub IsNotBegun : NodeState → List (Fuse D) → Line → List Line → NodeState → List (Fuse D) → Type 0
  IsNotBegun state old line lines after new = (lines ≡ line ∷ []) × (after ≡ state) × (new ≡ old)

  -- over any devices, the action may print these lines, and leave the node in this state
  abbrev pub Prints : Action → NodeState → List (Fuse D) → List Line → NodeState → List (Fuse D) → Type 0
  Prints Format state old lines after new =
      ((lines ≡ Formatted ∷ []) × (after ≡ formatted_node.state))
      ⊎ (IsFailed kind.held kind.faults config (IsNodeDevice config) old new (format_failure config) lines × (after ≡ record { up = None; formatted = false; printed = state.printed }))
  Prints (Recover kill) state old lines after new =
      ((state.formatted ≡ false) × IsNotBegun state old (NotUp asked.Recover) lines after new)
      ⊎ ((state.formatted ≡ true) × (PrintsRecovery state lines after ⊎ PrintsNoRecovery state old lines after new))
  Prints (Run phase) state old lines after new =
      ((up_for config phase state ≡ None) × IsNotBegun state old (NotUp asked.Run) lines after new)
      ⊎ PrintsRun phase state old lines after new
      ⊎ PrintsNoRun phase state old lines after new
  Prints (Lose volume) state old lines after new =
      (after ≡ down state) × SameBut (volume_device volume) old new
      × ((lines ≡ Removed (volume_name config volume) ∷ []) ⊎ IsFailed kind.held kind.faults config (λ device. device ≡ volume_device volume) old new (λ device. LoseFailed (volume_name config volume)) lines)
  Prints (Rollforward volume kill) state old lines after new =
      ((state.up ≡ None) × IsNotBegun state old (RollNotUp (volume_name config volume)) lines after new)
      ⊎ ((state.up ≢ None)
      × (((next : ℕ) × (lines ≡ Rolled (volume_name config volume) next ∷ []) × (after ≡ with_volume volume state)) ⊎ PrintsNoRoll volume state old lines after new))
  Prints (ListFile file) state old lines after new =
      ((up_with config file state ≡ None) × IsNotBegun state old (ListNotUp (file_name_of config file)) lines after new)
      ⊎ ((up_with config file state ≢ None) × (after ≡ state) × SameBut (file_device config file) old new
      × (((entries : List (List ℕ × List ℕ)) × (lines ≡ listed_lines (file_name_of config file) entries)) ⊎ PrintsNoList file old lines new))

  -- The actions print these lines, one after the other, each from the state that the one before it has left. No count of faults falls, no call is cut in an action without `kill`, and the countdown is off
  -- between two of them.
  abbrev pub PrintsAll : List Action → NodeState → List (Fuse D) → List Line → NodeState → List (Fuse D) → Type 0
  PrintsAll [] state old lines after new = (lines ≡ []) × (after ≡ state) × (new ≡ old)
  PrintsAll (action ∷ rest) state old lines after new =
      (first more : List Line) × (middle : NodeState) × (between : List (Fuse D))
      × Prints action state old first middle between × KeepsCounts kind.faults (kill_of action ≡ None) old between × PrintsAll rest middle between more after new × (lines ≡ first ++ more)

  -- The actions before one have their lines.
  pub record Reached (actions : List Action) (old : List (Fuse D)) : Type 0 where
    pub done : List Action
    pub action : Action
    pub rest : List Action
    pub parts : actions ≡ done ++ action ∷ rest
    pub lines : List Line
    pub middle : NodeState
    pub between : List (Fuse D)
    pub told : PrintsAll done first_state old lines middle between

  -- The script ended in this action, which had these lines to print: it was done; or, with status 2, memory lacked in it, and it had none.
  abbrev pub IsLast : Action → ℕ → NodeState → List (Fuse D) → List Line → List (Fuse D) → Type 0
  IsLast action code middle between more new = ((after : NodeState) × Prints action middle between more after new) ⊎ ((code ≡ 2) × (more ≡ []))

  -- What the sink was given behind the lines of the actions before: with status 2 nothing, with 4 a front of the lines of the last action, and not all.
  pub record IsGivenBy (code : ℕ) (before after : List ℕ) (more : List Line) : Type 0 where
    pub memory : code ≡ 2 → after ≡ before
    pub part : code ≡ 4 → AppendsPart before after (lines_text more)

  -- The script ended in one of its actions, with this status. No device is told as failed more often than it has.
  pub record PrintsUpTo (actions : List Action) (code : ℕ) (old new : List (Fuse D)) (sink : Type 0) (before after : List ℕ) : Type 0 where
    pub reached : Reached actions old
    pub more : List Line
    pub ended : IsLast reached.action code reached.middle reached.between more new
    pub counts : KeepsCounts kind.faults (kill_of reached.action ≡ None) reached.between new
    pub counted : AreCounted kind.faults config (reached.lines ++ more) old new
    pub given : sink → IsGivenBy code (before ++ lines_text reached.lines) after more

  -- All actions have their lines, which were given to the sink. No device is told as failed more often than it has.
  pub record PrintsWhole (actions : List Action) (old new : List (Fuse D)) (sink : Type 0) (before after : List ℕ) : Type 0 where
    pub lines : List Line
    pub left : NodeState
    pub told : PrintsAll actions first_state old lines left new
    pub counted : AreCounted kind.faults config lines old new
    pub given : sink → after ≡ before ++ lines_text lines

  -- how the actions of a script went over any devices, by the status; with 3, and perhaps with 2, nothing was done
  abbrev pub PrintsBy : List Action → ℕ → List (Fuse D) → List (Fuse D) → Type 0 → List ℕ → List ℕ → Type 0
  PrintsBy actions code old new sink before after =
      ((code ≡ 0) × PrintsWhole actions old new sink before after)
      ⊎ (((code ≡ 2) ⊎ (code ≡ 3)) × EndsUntouched old new sink before after)
      ⊎ (((code ≡ 2) ⊎ (code ≡ 4)) × PrintsUpTo actions code old new sink before after)

  -- all actions of a script were done, with these lines
  abbrev pub HavePrinted : List Action → List (Fuse D) → List Line → List (Fuse D) → Type 0
  HavePrinted actions old lines new = (left : NodeState) × PrintsAll actions first_state old lines left new

  -- BETWEEN ITS CALLS

  -- an action was done, and its lines were given to the sink
  pub record HasPrinted (action : Action) (state : NodeState) (old : List (Fuse D)) (after : NodeState) (new : List (Fuse D)) (sink : Type 0) (before given : List ℕ) : Type 0 where
    pub lines : List Line
    pub prints : Prints action state old lines after new
    pub given_is : sink → given ≡ before ++ lines_text lines

  -- how an action ended the script: it was done, and its lines were not given; or memory lacked in it, and it has none
  abbrev pub EndsBy : GiveFault → Action → NodeState → List (Fuse D) → List Line → List (Fuse D) → Type 0
  EndsBy fault action state old lines new = ((left : NodeState) × Prints action state old lines left new) ⊎ ((fault ≡ NoMemory) × (lines ≡ []))

  -- the script ended in an action
  pub record EndsPrinting (action : Action) (state : NodeState) (old new : List (Fuse D)) (fault : GiveFault) (sink : Type 0) (before after : List ℕ) : Type 0 where
    pub lines : List Line
    pub ends : EndsBy fault action state old lines new
    pub given : sink → IsNotGiven fault before after (lines_text lines)

  -- the script ended in one of its actions
  pub record EndsPlaying (actions : List Action) (old new : List (Fuse D)) (fault : GiveFault) (sink : Type 0) (before after : List ℕ) : Type 0 where
    pub reached : Reached actions old
    pub more : List Line
    pub ends : EndsBy fault reached.action reached.middle reached.between more new
    pub counts : KeepsCounts kind.faults (kill_of reached.action ≡ None) reached.between new
    pub given : sink → IsNotGiven fault (before ++ lines_text reached.lines) after (lines_text more)

-- The actions of some valid script went so, and it is the text's, where that is told. Before the first, the countdown may have been switched off.
pub record PrintsOfSome {D : Type 0} (kind : disk.Ghosts D) (code : ℕ) (old new : List (Fuse D)) (source : Type 0) (text : List ℕ) (sink : Type 0) (before after : List ℕ) : Type 0 where
  pub script : Script
  pub valid : IsValidScript script
  pub of_text : source → IsScriptOf script text
  pub printed : OnceSwitched (λ opened. PrintsBy kind script.config script.actions code opened new sink before after) old
