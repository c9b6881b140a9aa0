-- Over any devices, the lines of each action, and of a call, name no device more often than it has failed.
use Rattle.std.specs.Prelude.{Some, None}
use Rattle.std.specs.List.{AllByRecursion}
use Rattle.std.proofs.Common.{◌≡◌, ◌++◌, ◌∷◌, [], ℕ, List, refl, sym, ap, subst, ◌∙◌, inl, inr}
use Rattle.disk_model.specs.Devices.{NoneFalls, RoseAt}
use Rattle.disk_model.specs.declared.disk.Disk as disk
use Rattle.disk_model.specs.declared.fuse.Fuse.{Fuse}
use Rattle.rollforward.specs.Rolls.{IsRollDevice}
use Rattle.rollforward.specs.declared.errors.RollError.{RollError}
use Rattle.rollforward.specs.declared.errors.RollError.TheVariants as roll
use Rattle.run_outcomes.specs.declared.outcome.PhaseError.{PhaseError}
use Rattle.run_outcomes.specs.declared.outcome.PhaseError.TheVariants as phase_error
use Rattle.volume_recovery.specs.VolumeListing.{file_device}
use Rattle.volume_recovery.specs.VolumeNode.{volume_device}
use Rattle.volume_recovery.specs.declared.errors.ListError.{ListError}
use Rattle.volume_recovery.specs.declared.errors.ListError.TheVariants as listing
use Rattle.volume_recovery.specs.declared.errors.RecoverError.{RecoverError}
use Rattle.volume_recovery.specs.declared.errors.RecoverError.TheVariants as recovery
use Rattle.tmf_lines.specs.declared.line.ActionKind.TheVariants as asked
use Rattle.tmf_lines.specs.declared.line.Line.{Line}
use Rattle.tmf_lines.specs.declared.line.Line.TheVariants.{Failed, ListFailed, LoseFailed, RollFailed, RunFailed}
use Rattle.tmf_lines.specs.Report.{device_name, file_name_of, format_failure, node_device_name, volume_name}
use Rattle.tmf_model.specs.Config.{IsDeclared, IsValidConfig}
use Rattle.tmf_model.specs.Script.{IsValidAction}
use Rattle.tmf_model.specs.declared.config.Config.{Config}
use Rattle.tmf_model.specs.declared.script.Action.{Action}
use Rattle.tmf_model.specs.declared.script.Action.TheVariants as action
use Rattle.tmf_model.specs.declared.script.Phase.{Phase}
use Rattle.tmf_cli.specs.declared.node.NodeState.{NodeState}
use Rattle.tmf_cli.specs.AnyDevices.{IsLast, Prints, PrintsAll, PrintsNoList, PrintsNoRecovery, PrintsNoRoll, PrintsNoRun, Reached, first_state}
use Rattle.tmf_cli.specs.BetweenActions.{IsListLine}
use Rattle.tmf_cli.specs.Counts.{AreCounted, failed_of}
use Rattle.tmf_cli.specs.OutputLaw.{FailedAmong, HasFailed, IsRecoveryLine, IsRollLine, IsRunLine}
use Rattle.tmf_cli.proofs.CountedLines.{file-name, fine-lines, format-name, front-valid, node-name, plain-line, ran-counted, volume-name}
use Rattle.tmf_cli.proofs.Counting.{AreUnfailed, counted-more, counted-none, counted-one}
use Rattle.tmf_cli.proofs.Falls.{falls-further, falls-itself}
use Rattle.tmf_cli.proofs.FaultlessLines.{faultless-listed, faultless-recovered}

module _ {D : Type 0} (kind : disk.Ghosts D) (config : Config) where
  abbrev IsCounted : List Line → List (Fuse D) → List (Fuse D) → Type 0
  IsCounted lines old new = AreCounted kind.faults config lines old new

  -- no count falls over a row of actions
  pub prints-falls : (actions : List Action) (state after : NodeState) (old new : List (Fuse D)) (lines : List Line) → PrintsAll kind config actions state old lines after new → NoneFalls kind.faults old new
  prints-falls [] state after old new lines told = subst (NoneFalls kind.faults old) (sym told.2) (falls-itself kind.faults old)
  prints-falls (done ∷ rest) state after old new lines (first, more, middle, between, prints, counts, told, parts) =
      falls-further kind.faults old between new counts.falls (prints-falls rest middle after between new more told)

  plain : (line : Line) (lines : List Line) (old new : List (Fuse D)) → failed_of line ≡ None → lines ≡ line ∷ [] → NoneFalls kind.faults old new → IsCounted lines old new
  plain line lines old new none is falls = plain-line kind.held kind.faults config line lines old new none is falls

  none-counted : (lines : List Line) (old new : List (Fuse D)) → lines ≡ [] → NoneFalls kind.faults old new → IsCounted lines old new
  none-counted lines old new none falls = counted-none kind.faults config lines old new (subst AreUnfailed (sym none) tt) falls

  -- a line of a refusal
  module _ (old new : List (Fuse D)) (line : Line) (lines : List Line) (printed : lines ≡ line ∷ []) (falls : NoneFalls kind.faults old new) where
    refused : (other : Line) → line ≡ other → failed_of other ≡ None → IsCounted lines old new
    refused other is none = plain other lines old new none (printed ∙ ap (λ l. l ∷ []) is) falls

    blamed : (other : Line) (device : ℕ) → line ≡ other → failed_of other ≡ Some (node_device_name config device) → RoseAt kind.faults old new device → IsCounted lines old new
    blamed other device is names rose = counted-one kind.faults config other lines old new device names (printed ∙ ap (λ l. l ∷ []) is) falls rose

  module _ (valid : IsValidConfig config) where
    no-recovery : (state after : NodeState) (old new : List (Fuse D)) (lines : List Line) → NoneFalls kind.faults old new → PrintsNoRecovery kind config state old lines after new → IsCounted lines old new
    no-recovery state after old new lines falls p = by p.error p.failed p.is_line
      where
        by : (error : RecoverError) → ((device : ℕ) → error ≡ recovery.Failed device → HasFailed kind.faults config old new device) → IsRecoveryLine config error p.line → IsCounted lines old new
        by (recovery.Failed device) failed is = let of = failed device refl in blamed old new p.line lines p.printed falls (Failed asked.Recover (device_name config device)) device is (ap Some (node-name config valid device of.0)) of.1
        by (recovery.Damaged device damage) failed is = refused old new p.line lines p.printed falls _ is refl
        by recovery.EpochsSpent failed is = refused old new p.line lines p.printed falls _ is refl
        by recovery.NoMemory failed is = absurd is

    no-run : (phase : Phase) (state after : NodeState) (old new : List (Fuse D)) (lines : List Line) → NoneFalls kind.faults old new → PrintsNoRun kind config phase state old lines after new → IsCounted lines old new
    no-run phase state after old new lines falls p = by p.error p.failed p.is_line
      where
        by : (error : PhaseError) → ((device : ℕ) → error ≡ phase_error.Failed device → RoseAt kind.faults old new device) → IsRunLine config error p.line → IsCounted lines old new
        by (phase_error.Failed device) failed is = blamed old new p.line lines p.printed falls (RunFailed (node_device_name config device)) device is refl (failed device refl)
        by (phase_error.Damaged device damage) failed is = refused old new p.line lines p.printed falls _ is refl
        by phase_error.NoMemory failed is = absurd is

    no-roll : (volume : ℕ) (state after : NodeState) (old new : List (Fuse D)) (lines : List Line) → NoneFalls kind.faults old new → PrintsNoRoll kind config volume state old lines after new → IsCounted lines old new
    no-roll volume state after old new lines falls p = by p.error p.failed p.is_line
      where
        by : (error : RollError) → ((device : ℕ) → error ≡ roll.Failed device → FailedAmong (IsRollDevice config volume) kind.faults old new device) → IsRollLine config volume error p.line → IsCounted lines old new
        by roll.NotLost failed is = refused old new p.line lines p.printed falls _ is refl
        by roll.NoDump failed is = refused old new p.line lines p.printed falls _ is refl
        by (roll.Failed device) failed is = blamed old new p.line lines p.printed falls (RollFailed (volume_name config volume) (node_device_name config device)) device is refl (failed device refl).1
        by (roll.Damaged device damage) failed is = refused old new p.line lines p.printed falls _ is refl
        by roll.NoMemory failed is = absurd is

    no-list : (file : ℕ) (old new : List (Fuse D)) (lines : List Line) → IsDeclared config.files file → NoneFalls kind.faults old new → PrintsNoList kind config file old lines new → IsCounted lines old new
    no-list file old new lines declared falls p = by p.error p.failed p.is_line
      where
        by : (error : ListError) → ((device : ℕ) → error ≡ listing.Failed device → (device ≡ file_device config file) × RoseAt kind.faults old new device) → IsListLine config file error p.line → IsCounted lines old new
        by (listing.Failed device) failed is =
            let of = failed device refl in
            blamed old new p.line lines p.printed falls (ListFailed (file_name_of config file) (device_name config device)) device is (ap Some (file-name config valid file device declared of.0)) of.1
        by (listing.Damaged device damage) failed is = refused old new p.line lines p.printed falls _ is refl
        by listing.Lost failed is = refused old new p.line lines p.printed falls _ is refl
        by listing.NoMemory failed is = absurd is

    pub prints-counted : (done : Action) (state after : NodeState) (old new : List (Fuse D)) (lines : List Line) → IsValidAction config done → NoneFalls kind.faults old new → Prints kind config done state old lines after new → IsCounted lines old new
    prints-counted action.Format state after old new lines is falls (inl p) = plain _ lines old new refl p.0 falls
    prints-counted action.Format state after old new lines is falls (inr p) =
        counted-one kind.faults config (format_failure config p.0.0) lines old new p.0.0 (format-name config p.0.0) p.0.2 falls p.0.1.1
    prints-counted (action.Recover kill) state after old new lines is falls (inl p) = plain _ lines old new refl p.1.0 falls
    prints-counted (action.Recover kill) state after old new lines is falls (inr (formatted, inl p)) =
        fine-lines kind.held kind.faults config _ lines old new (faultless-recovered config state.printed p.list p.lost p.epoch) p.printed falls
    prints-counted (action.Recover kill) state after old new lines is falls (inr (formatted, inr p)) = no-recovery state after old new lines falls p
    prints-counted (action.Run phase) state after old new lines is falls (inl p) = plain _ lines old new refl p.1.0 falls
    prints-counted (action.Run phase) state after old new lines is falls (inr (inl p)) = ran-counted kind config phase p.up.epoch old p.opened p.closed new p.on p.off p.outcomes p.ran lines p.printed
    prints-counted (action.Run phase) state after old new lines is falls (inr (inr p)) = no-run phase state after old new lines falls p
    prints-counted (action.Lose volume) state after old new lines is falls (left, others, inl p) = plain _ lines old new refl p falls
    prints-counted (action.Lose volume) state after old new lines is falls (left, others, inr p) =
        counted-one kind.faults config (LoseFailed (volume_name config volume)) lines old new (volume_device volume) (ap Some (volume-name config valid volume is.above is.below)) p.2 falls (subst (RoseAt kind.faults old new) p.1.0 p.1.1)
    prints-counted (action.Rollforward volume kill) state after old new lines is falls (inl p) = plain _ lines old new refl p.1.0 falls
    prints-counted (action.Rollforward volume kill) state after old new lines is falls (inr (up, inl p)) = plain _ lines old new refl p.1 falls
    prints-counted (action.Rollforward volume kill) state after old new lines is falls (inr (up, inr p)) = no-roll volume state after old new lines falls p
    prints-counted (action.List file) state after old new lines is falls (inl p) = plain _ lines old new refl p.1.0 falls
    prints-counted (action.List file) state after old new lines is falls (inr (up, left, others, inl p)) = fine-lines kind.held kind.faults config _ lines old new (faultless-listed _ p.0) p.1 falls
    prints-counted (action.List file) state after old new lines is falls (inr (up, left, others, inr p)) = no-list file old new lines is falls p

    -- ALL ACTIONS

    pub all-counted : (actions : List Action) (state after : NodeState) (old new : List (Fuse D)) (lines : List Line) → AllByRecursion (IsValidAction config) actions → PrintsAll kind config actions state old lines after new → IsCounted lines old new
    all-counted [] state after old new lines are told = none-counted lines old new told.0 (prints-falls [] state after old new lines told)
    all-counted (done ∷ rest) state after old new lines are (first, more, middle, between, prints, counts, told, parts) =
        subst (λ l. IsCounted l old new) (sym parts)
        (counted-more kind.faults config first more old between new counts.falls (prints-counted done state middle old between first are.0 counts.falls prints) (all-counted rest middle after between new more are.1 told))

    -- THE LAST ONE

    last-counted : (done : Action) (code : ℕ) (state : NodeState) (old new : List (Fuse D)) (more : List Line) → IsValidAction config done → NoneFalls kind.faults old new → IsLast kind config done code state old more new
        → IsCounted more old new
    last-counted done code state old new more is falls (inl (after, p)) = prints-counted done state after old new more is falls p
    last-counted done code state old new more is falls (inr (memory, none)) = none-counted more old new none falls

    pub up-to-counted : (actions : List Action) (old new : List (Fuse D)) (at : Reached kind config actions old) (code : ℕ) (more : List Line) → AllByRecursion (IsValidAction config) actions → NoneFalls kind.faults at.between new
        → IsLast kind config at.action code at.middle at.between more new → IsCounted (at.lines ++ more) old new
    up-to-counted actions old new at code more are falls ended =
        let parts = front-valid kind.held kind.faults config valid at.done (at.action ∷ at.rest) (subst (AllByRecursion (IsValidAction config)) at.parts are) in
        counted-more kind.faults config at.lines more old at.between new (prints-falls at.done first_state at.middle old at.between at.lines at.told)
        (all-counted at.done first_state at.middle old at.between at.lines parts.0 at.told) (last-counted at.action code at.middle at.between new more parts.1.0 falls ended)
