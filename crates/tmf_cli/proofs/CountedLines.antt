-- The lines of each action, and of a call, name no device more often than it has failed.
use Rattle.std.specs.Prelude.{if◌then◌else◌, map, nat_le, slice_get}
use Rattle.std.specs.List.{AllByRecursion, cons_option, filter_map}
use Rattle.std.proofs.Common.{true, false, ◌≡◌, ◌≤◌, ◌<◌, ◌+◌, ◌-◌, ◌++◌, ◌∷◌, [], ℕ, Bool, List, length, Option, Some, None, refl, sym, ap, subst, ◌∙◌, inl, inr, ⊎_elim, arith}
use Rattle.std.proofs.lemmas.Bool.Decides.{leb_tells}
use Rattle.std.proofs.lemmas.List.Elements.{filter_map-append, recursion_from_All}
use Rattle.disk_model.specs.Devices.{NoneFalls, RoseAt}
use Rattle.disk_model.specs.Fuse.{fuse_faults}
use Rattle.disk_model.specs.Held.{Held}
use Rattle.disk_model.specs.declared.disk.Disk as disk
use Rattle.disk_model.specs.declared.fuse.Fuse.{Fuse}
use Rattle.rollforward.specs.declared.errors.RollError.{RollError}
use Rattle.rollforward.specs.declared.errors.RollError.TheVariants as roll
use Rattle.run_outcomes.specs.Devices.{fuse_kind, part_of_device}
use Rattle.run_outcomes.specs.Ends.{times_failed}
use Rattle.run_outcomes.specs.Run.{HasRun, RoseBy, account_of}
use Rattle.run_outcomes.specs.Told.{Account}
use Rattle.run_outcomes.specs.declared.outcome.Hang.TheVariants as hang
use Rattle.run_outcomes.specs.declared.outcome.Outcome.{Outcome}
use Rattle.run_outcomes.specs.declared.outcome.PhaseError.{PhaseError}
use Rattle.run_outcomes.specs.declared.outcome.PhaseError.TheVariants as phase_error
use Rattle.run_outcomes.specs.declared.outcome.Told.{Told}
use Rattle.run_outcomes.specs.declared.outcome.Told.TheVariants as told
use Rattle.run_standing.specs.Telling.{telling}
use Rattle.volume_recovery.specs.declared.errors.RecoverError.{RecoverError}
use Rattle.volume_recovery.specs.declared.errors.RecoverError.TheVariants as recovery
use Rattle.volume_recovery.specs.VolumeLoop.{IsUsed}
use Rattle.volume_recovery.specs.VolumeNode.{volume_device}
use Rattle.volume_restore.specs.Bases.{volume_on}
use Rattle.tmf_lines.specs.declared.line.ActionKind.TheVariants as asked
use Rattle.tmf_lines.specs.declared.line.Line.{Line}
use Rattle.tmf_lines.specs.declared.line.Line.TheVariants.{AttemptFailed, DumpsFailed, Failed, Hanging, InDoubt, ListFailed, LoseFailed, RollFailed, RunFailed}
use Rattle.tmf_lines.specs.declared.line.PartName.{PartName}
use Rattle.tmf_lines.specs.declared.line.PartName.TheVariants.{Device, Worker}
use Rattle.tmf_lines.specs.Report.{device_name, file_name_of, format_failure, node_device_name, part_name, spent_line, trail_name, volume_name}
use Rattle.tmf_model.specs.Config.{IsDeclared, IsValidConfig}
use Rattle.tmf_model.specs.Script.{IsValidAction, IsValidScript}
use Rattle.tmf_model.specs.declared.config.Config.{Config}
use Rattle.tmf_model.specs.declared.script.Action.{Action}
use Rattle.tmf_model.specs.declared.script.Action.TheVariants as action
use Rattle.tmf_model.specs.declared.script.Phase.{Phase}
use Rattle.tmf_model.specs.declared.script.Script.{Script}
use Rattle.tmf_model.specs.declared.transid.Transid.{Transid}
use Rattle.tmf_cli.specs.Counts.{AreCounted, CountsFailures, CountsLaw, failed_of, plain_name, times_named}
use Rattle.tmf_cli.specs.Ending.{EndsIn, opening}
use Rattle.tmf_cli.specs.Faultless.{AreFaultless, IsFaultless}
use Rattle.tmf_cli.specs.Headline.{KeepsEveryCommit, Went}
use Rattle.tmf_cli.specs.OutputLaw.{Breaks, Candidate, Does, Formats, IsRecoveryLine, IsRefusedFor, IsRollLine, IsRunLine, IsUnrolledFor, IsUnrunFor, Lists, Loses, Node, Recovers, Rolls, Runs, RunsWhole, ToldBy}
use Rattle.tmf_cli.specs.RunLines.{read_lines, run_lines, told_lines}
use Rattle.tmf_cli.proofs.Counting.{AreUnfailed, counted-more, counted-none, counted-one, rose-fewer, unfailed-none}
use Rattle.tmf_cli.proofs.Extending.{all-weaker}
use Rattle.tmf_cli.proofs.FailedCalls.{device_told, devices_told, told-there, told-times}
use Rattle.tmf_cli.proofs.Falls.{told-falls}
use Rattle.tmf_cli.proofs.Faultless.{fuse-after, fuse-before, same-faults}
use Rattle.tmf_cli.proofs.FaultlessLines.{faultless-listed, faultless-reads, faultless-recovered}
use Rattle.tmf_cli.proofs.Losses.{number-within}
use Rattle.tmf_cli.proofs.Resting.{file-volume}
use Rattle.tmf_cli.specs.Countdown.{IsSwitched, Switches}

-- NAMES

at-most : (a b : ℕ) → a ≤ b → nat_le a b ≡ true
at-most a b less = ⊎_elim (λ yes. yes.0) (λ no. absurd (omega (arith, less, no.1))) (leb_tells a b)

above : (a b : ℕ) → b < a → nat_le a b ≡ false
above a b more = ⊎_elim (λ yes. absurd (omega (arith, more, yes.1))) (λ no. no.0) (leb_tells a b)

module _ (config : Config) where
  -- the device of a trail or of a volume is printed by the name of that
  plain : (device : ℕ) → device ≤ 12 → plain_name (device_name config device) ≡ node_device_name config device
  plain device less =
      sym (ap (λ (b : Bool). if b then plain_name (device_name config device) else record { dumps = true; name = volume_name config (device - 12) }) (at-most device 12 less))

  -- a format that failed names the device
  pub format-name : (device : ℕ) → failed_of (format_failure config device) ≡ Some (node_device_name config device)
  format-name device = by (nat_le device 12) (device_name config device) (volume_name config (device - 12))
    where
      by : (b : Bool) (name volume : List ℕ) → failed_of (if b then Failed asked.Format name else DumpsFailed volume) ≡ Some (if b then plain_name name else record { dumps = true; name = volume })
      by true name volume = refl
      by false name volume = refl

module _ (config : Config) (valid : IsValidConfig config) where
  -- a volume's device has the volume's name
  pub volume-name : (volume : ℕ) → 1 ≤ volume → volume ≤ length config.volumes → plain_name (volume_name config volume) ≡ node_device_name config (volume_device volume)
  volume-name volume some few =
      let number : 4 + volume - 4 ≡ volume = omega arith in
      let own : device_name config (4 + volume) ≡ volume_name config volume =
      ap (λ (b : Bool). if b then trail_name config (4 + volume) else volume_name config (4 + volume - 4)) (above (4 + volume) 4 (omega (arith, some))) ∙ ap (volume_name config) number in
      ap plain_name (sym own) ∙ plain config (4 + volume) (omega (arith, few, valid.volumes.few))

  -- that of a trail or of a volume is no device of dumps
  node-most : (device : ℕ) → IsUsed config device → device ≤ 12
  node-most device (inl trail) = omega (arith, trail, valid.trails.few)
  node-most device (inr volume) = omega (arith, volume.1, valid.volumes.few)

  pub node-name : (device : ℕ) → IsUsed config device → plain_name (device_name config device) ≡ node_device_name config device
  node-name device of = plain config device (node-most device of)

  -- so is that of a file's volume
  pub file-name : (file device : ℕ) → IsDeclared config.files file → device ≡ volume_device (volume_on config file) → plain_name (device_name config device) ≡ node_device_name config device
  file-name file device declared is =
      let volume = file-volume config file valid declared in
      let within = number-within config.volumes (volume_on config file) volume.0 volume.1 in
      plain config device (omega (arith, is, within, valid.volumes.few))

-- LINES

-- a line that tells of no fault tells of no failed call
unfailed : (line : Line) → IsFaultless line → failed_of line ≡ None
unfailed (Failed action name) fine = absurd fine
unfailed (DumpsFailed volume) fine = absurd fine
unfailed (LoseFailed volume) fine = absurd fine
unfailed (RollFailed volume device) fine = absurd fine
unfailed (ListFailed file name) fine = absurd fine
unfailed (RunFailed device) fine = absurd fine
unfailed (AttemptFailed tx device) fine = absurd fine
unfailed (InDoubt tx device) fine = absurd fine
unfailed (Hanging tx device) fine = absurd fine
unfailed _ fine = refl

unfailed-all : (lines : List Line) → AreFaultless lines → AreUnfailed lines
unfailed-all lines fine = all-weaker IsFaultless (λ line. failed_of line ≡ None) unfailed lines fine

-- what an outcome of a run tells of
spent-names : (tx : Transid) (part : PartName) → filter_map failed_of (spent_line tx part ∷ []) ≡ []
spent-names tx (Worker number) = refl
spent-names tx (Device device) = refl

told-names : (config : Config) (tx : Transid) (tells : Told) → filter_map failed_of (told_lines config tx tells) ≡ map (node_device_name config) (cons_option (device_told tells) [])
told-names config tx (told.Committed place reads) = unfailed-none (read_lines tx reads) (unfailed-all (read_lines tx reads) (faultless-reads tx reads))
told-names config tx told.Aborted = refl
told-names config tx (told.Busy file key holder) = refl
told-names config tx (told.Full file key) = refl
told-names config tx (told.Refused op reason) = refl
told-names config tx (told.Spent part) = spent-names tx (part_name config part)
told-names config tx (told.Failed device) = refl
told-names config tx (told.Damaged device damage) = refl
told-names config tx (told.InDoubt device) = refl
told-names config tx (told.Hanging (hang.Device device)) = refl
told-names config tx (told.Hanging (hang.Damaged device damage)) = refl
told-names config tx (told.Hanging hang.Memory) = refl
told-names config tx told.Skipped = refl
told-names config tx told.Memory = refl
told-names config tx (told.Controlled volume low) = refl
told-names config tx (told.Dumped volume start) = refl
told-names config tx (told.Dumping volume) = refl

names-first : (config : Config) (named : Option ℕ) (numbers : List ℕ) → map (node_device_name config) (cons_option named numbers) ≡ map (node_device_name config) (cons_option named []) ++ map (node_device_name config) numbers
names-first config None numbers = refl
names-first config (Some device) numbers = refl

run-names : (config : Config) (outcomes : List Outcome) → filter_map failed_of (run_lines config outcomes) ≡ map (node_device_name config) (devices_told outcomes)
run-names config [] = refl
run-names config (o ∷ rest) =
    filter_map-append failed_of (told_lines config o.tx o.told) (run_lines config rest) ∙ ap (λ l. l ++ filter_map failed_of (run_lines config rest)) (told-names config o.tx o.told)
    ∙ ap (λ l. map (node_device_name config) (cons_option (device_told o.told) []) ++ l) (run-names config rest) ∙ sym (names-first config (device_told o.told) (devices_told rest))

-- the lines of a run that is whole
pub ran-counted : {D : Type 0} (kind : disk.Ghosts D) (config : Config) (phase : Phase) (epoch : ℕ) (old opened closed new : List (Fuse D)) → Switches old opened → Switches closed new → (outcomes : List Outcome)
    → HasRun (fuse_kind kind) config phase epoch opened closed outcomes → (lines : List Line) → lines ≡ run_lines config outcomes → AreCounted kind.faults config lines old new
ran-counted {D} kind config phase epoch old opened closed new on off outcomes ran lines printed =
    let account : Account = account_of (fuse_kind kind) config phase epoch (λ number. slice_get opened number) ran.found ran.log in
    record {
      named = devices_told outcomes;
      names = ap (filter_map failed_of) printed ∙ run-names config outcomes;
      there = λ count. told-there account outcomes ran.told;
      rose = λ device before after was now.
          let first = fuse-after IsSwitched old opened device before was on in
          let last = fuse-before IsSwitched closed new device after now off in
          let times = times_named device (devices_told outcomes) in
          let rise : RoseBy times (fuse_faults kind.faults first.0) (fuse_faults kind.faults last.0) =
          rose-fewer times (times_failed (part_of_device device) ran.log) (fuse_faults kind.faults first.0) (fuse_faults kind.faults last.0)
          (told-times account outcomes ran.told phase epoch ran.attempts device) (ran.failed device first.0 last.0 first.1 last.1) in
          subst (λ n. RoseBy times n (fuse_faults kind.faults after)) (same-faults kind.faults before first.0 first.2)
          (subst (λ n. RoseBy times (fuse_faults kind.faults first.0) n) (sym (same-faults kind.faults last.0 after last.2)) rise);
    }

module _ {D : Type 0} (held : D → Held) (faults : D → ℕ) (config : Config) where
  abbrev IsCounted : List Line → List (Fuse D) → List (Fuse D) → Type 0
  IsCounted lines old new = AreCounted faults config lines old new

  -- one line that tells of no failed call
  pub plain-line : (line : Line) (lines : List Line) (old new : List (Fuse D)) → failed_of line ≡ None → lines ≡ line ∷ [] → NoneFalls faults old new → IsCounted lines old new
  plain-line line lines old new none is falls = counted-none faults config lines old new (subst AreUnfailed (sym is) (none, tt)) falls

  -- lines of which none tells of one
  pub fine-lines : (fine lines : List Line) (old new : List (Fuse D)) → AreFaultless fine → lines ≡ fine → NoneFalls faults old new → IsCounted lines old new
  fine-lines fine lines old new are is falls = counted-none faults config lines old new (subst AreUnfailed (sym is) (unfailed-all fine are)) falls

  -- those of a run that is whole
  whole-counted : (phase : Phase) (node after : Node) (old new : List (Fuse D)) (lines : List Line) → RunsWhole held faults config phase node old lines after new → IsCounted lines old new
  whole-counted phase node after old new lines ran = ran-counted (telling held faults) config phase ran.up.epoch old ran.opened ran.closed new ran.on ran.off ran.outcomes ran.ran lines ran.printed

  -- ONE ACTION

  format-counted : (node after : Node) (old new : List (Fuse D)) (lines : List Line) → NoneFalls faults old new → Formats held faults config node old lines after new → IsCounted lines old new
  format-counted node after old new lines falls (inl (is, left, gone)) = plain-line _ lines old new refl is falls
  format-counted node after old new lines falls (inr (failed, left)) =
      counted-one faults config (format_failure config failed.0) lines old new failed.0 (format-name config failed.0) failed.2 falls failed.1.1

  module _ (valid : IsValidConfig config) where
    recovery-counted : (node after : Node) (old new : List (Fuse D)) (lines : List Line) → NoneFalls faults old new → Recovers held faults config node old lines after new → IsCounted lines old new
    recovery-counted node after old new lines falls (inl (formatted, is, left, same)) = plain-line _ lines old new refl is falls
    recovery-counted node after old new lines falls (inr (inl (formatted, whole))) =
        fine-lines _ lines old new (faultless-recovered config node.state.printed whole.list _ _) whole.printed falls
    recovery-counted node after old new lines falls (inr (inr (formatted, refused))) = by refused.error refused.why refused.is_line
      where
        by : (error : RecoverError) → IsRefusedFor faults config node old new error → IsRecoveryLine config error refused.line → IsCounted lines old new
        by (recovery.Failed device) why is =
            counted-one faults config (Failed asked.Recover (device_name config device)) lines old new device (ap Some (node-name config valid device why.0)) (refused.printed ∙ ap (λ l. l ∷ []) is) falls why.1
        by (recovery.Damaged device damage) why is = plain-line _ lines old new refl (refused.printed ∙ ap (λ l. l ∷ []) is) falls
        by recovery.EpochsSpent why is = plain-line _ lines old new refl (refused.printed ∙ ap (λ l. l ∷ []) is) falls
        by recovery.NoMemory why is = absurd why

    run-counted : (phase : Phase) (node after : Node) (old new : List (Fuse D)) (lines : List Line) → NoneFalls faults old new → Runs held faults config phase node old lines after new → IsCounted lines old new
    run-counted phase node after old new lines falls (inl (down, is, left, same)) = plain-line _ lines old new refl is falls
    run-counted phase node after old new lines falls (inr (inl ran)) = whole-counted phase node after old new lines ran
    run-counted phase node after old new lines falls (inr (inr not_run)) = by not_run.error not_run.why not_run.is_line
      where
        by : (error : PhaseError) → IsUnrunFor faults node.candidates old new error → IsRunLine config error not_run.line → IsCounted lines old new
        by (phase_error.Failed device) why is = counted-one faults config (RunFailed (node_device_name config device)) lines old new device refl (not_run.printed ∙ ap (λ l. l ∷ []) is) falls why
        by (phase_error.Damaged device damage) why is = plain-line _ lines old new refl (not_run.printed ∙ ap (λ l. l ∷ []) is) falls
        by phase_error.NoMemory why is = absurd why

    loss-counted : (volume : ℕ) (node after : Node) (old new : List (Fuse D)) (lines : List Line) → IsDeclared config.volumes volume → NoneFalls faults old new → Loses held faults config volume node old lines after new
        → IsCounted lines old new
    loss-counted volume node after old new lines declared falls (leaves, inl (is, gone, left)) = plain-line _ lines old new refl is falls
    loss-counted volume node after old new lines declared falls (leaves, inr (failed, left)) =
        counted-one faults config (LoseFailed (volume_name config volume)) lines old new (volume_device volume) (ap Some (volume-name config valid volume declared.above declared.below)) failed.2 falls
        (subst (RoseAt faults old new) failed.1.0 failed.1.1)

    roll-counted : (volume : ℕ) (node after : Node) (old new : List (Fuse D)) (lines : List Line) → NoneFalls faults old new → Rolls held faults config volume node old lines after new → IsCounted lines old new
    roll-counted volume node after old new lines falls (inl (down, is, left, same)) = plain-line _ lines old new refl is falls
    roll-counted volume node after old new lines falls (inr (leaves, inl whole)) = plain-line _ lines old new refl whole.printed falls
    roll-counted volume node after old new lines falls (inr (leaves, inr refused)) = by refused.error refused.why refused.is_line
      where
        by : (error : RollError) → IsUnrolledFor faults config volume node.candidates refused.up old new error → IsRollLine config volume error refused.line → IsCounted lines old new
        by roll.NotLost why is = plain-line _ lines old new refl (refused.printed ∙ ap (λ l. l ∷ []) is) falls
        by roll.NoDump why is = plain-line _ lines old new refl (refused.printed ∙ ap (λ l. l ∷ []) is) falls
        by (roll.Failed device) why is =
            counted-one faults config (RollFailed (volume_name config volume) (node_device_name config device)) lines old new device refl (refused.printed ∙ ap (λ l. l ∷ []) is) falls why.1
        by (roll.Damaged device damage) why is = plain-line _ lines old new refl (refused.printed ∙ ap (λ l. l ∷ []) is) falls
        by roll.NoMemory why is = absurd why

    listing-counted : (file : ℕ) (node after : Node) (old new : List (Fuse D)) (lines : List Line) → IsDeclared config.files file → NoneFalls faults old new → Lists held faults config file node old lines after new
        → IsCounted lines old new
    listing-counted file node after old new lines declared falls (inl (down, is, left, same)) = plain-line _ lines old new refl is falls
    listing-counted file node after old new lines declared falls (inr (up, left, hold, inl listed)) = fine-lines _ lines old new (faultless-listed _ listed.0) listed.2 falls
    listing-counted file node after old new lines declared falls (inr (up, left, hold, inr failed)) =
        counted-one faults config (ListFailed (file_name_of config file) (device_name config failed.0)) lines old new failed.0 (ap Some (file-name config valid file failed.0 declared failed.1.0)) failed.2 falls failed.1.1

    does-counted : (done : Action) (node after : Node) (old new : List (Fuse D)) (lines : List Line) → IsValidAction config done → NoneFalls faults old new → Does held faults config done node old lines after new
        → IsCounted lines old new
    does-counted action.Format node after old new lines is falls does = format-counted node after old new lines falls does
    does-counted (action.Recover kill) node after old new lines is falls does = recovery-counted node after old new lines falls does
    does-counted (action.Run phase) node after old new lines is falls does = run-counted phase node after old new lines falls does
    does-counted (action.Lose volume) node after old new lines is falls does = loss-counted volume node after old new lines is falls does
    does-counted (action.Rollforward volume kill) node after old new lines is falls does = roll-counted volume node after old new lines falls does
    does-counted (action.List file) node after old new lines is falls does = listing-counted file node after old new lines is falls does

    -- ALL ACTIONS

    rows-counted : (actions : List Action) (before after : Node) (old new : List (Fuse D)) (lines : List Line) → AllByRecursion (IsValidAction config) actions → ToldBy held faults config actions before old lines after new
        → IsCounted lines old new
    rows-counted [] before after old new lines are told =
        counted-none faults config lines old new (subst AreUnfailed (sym told.0) tt) (told-falls held faults config [] before after old new lines told)
    rows-counted (done ∷ rest) before after old new lines are (first, more, middle, between, does, stands, counts, told, parts) =
        subst (λ l. IsCounted l old new) (sym parts)
        (counted-more faults config first more old between new counts.falls (does-counted done before middle old between first are.0 counts.falls does) (rows-counted rest middle after between new more are.1 told))

    -- AN ACTION THAT WAS BROKEN OFF

    no-lines : (lines : List Line) (old new : List (Fuse D)) → lines ≡ [] → NoneFalls faults old new → IsCounted lines old new
    no-lines lines old new none falls = counted-none faults config lines old new (subst AreUnfailed (sym none) tt) falls

    breaks-counted : (done : Action) (node after : Node) (old new : List (Fuse D)) (lines : List Line) → NoneFalls faults old new → Breaks held faults config done node old lines after new → IsCounted lines old new
    breaks-counted action.Format node after old new lines falls (none, is) = no-lines lines old new none falls
    breaks-counted (action.Recover kill) node after old new lines falls (none, is) = no-lines lines old new none falls
    breaks-counted (action.Run phase) node after old new lines falls (inl (not_up, none, is, same)) = no-lines lines old new none falls
    breaks-counted (action.Run phase) node after old new lines falls (inr (inl (up, none, is, same))) = no-lines lines old new none falls
    breaks-counted (action.Run phase) node after old new lines falls (inr (inr ran)) = whole-counted phase node after old new lines ran
    breaks-counted (action.Lose volume) node after old new lines falls (none, is, same) = no-lines lines old new none falls
    breaks-counted (action.Rollforward volume kill) node after old new lines falls (none, is, same) = no-lines lines old new none falls
    breaks-counted (action.List file) node after old new lines falls (none, is, same) = no-lines lines old new none falls

    -- HOW THE SCRIPT ENDED

    last-counted : (node : Node) (actions : List Action) (old new : List (Fuse D)) (ends : EndsIn held faults config node actions old new) → IsValidAction config ends.reaches.action → IsCounted ends.more ends.reaches.between new
    last-counted node actions old new ends is =
        let at = ends.reaches in
        ⊎_elim (does-counted at.action at.middle ends.left at.between new ends.more is ends.counts.falls) (breaks-counted at.action at.middle ends.left at.between new ends.more ends.counts.falls) ends.begun

    pub front-valid : (first more : List Action) → AllByRecursion (IsValidAction config) (first ++ more) → AllByRecursion (IsValidAction config) first × AllByRecursion (IsValidAction config) more
    front-valid [] more are = (tt, are)
    front-valid (done ∷ first) more are = let parts = front-valid first more are.1 in ((are.0, parts.0), parts.1)

    ends-counted : (node : Node) (actions : List Action) (old new : List (Fuse D)) (ends : EndsIn held faults config node actions old new) → AllByRecursion (IsValidAction config) actions
        → IsCounted (ends.reaches.lines ++ ends.more) old new
    ends-counted node actions old new ends are =
        let at = ends.reaches in
        let parts = front-valid at.done (at.action ∷ at.rest) (subst (AllByRecursion (IsValidAction config)) at.parts are) in
        counted-more faults config at.lines ends.more old at.between new (told-falls held faults config at.done node at.middle old at.between at.lines at.told)
        (rows-counted at.done node at.middle old at.between at.lines parts.0 at.told) (last-counted node actions old new ends parts.1.0)

  -- The law.
  pub counts_law : CountsLaw held faults config
  counts_law actions before after old new lines valid are told = rows-counted valid actions before after old new lines (recursion_from_All (IsValidAction config) actions are) told

-- The lines of a call's promise are counted.
pub counts-failures : {D : Type 0} (held : D → Held) (faults : D → ℕ) (script : Script) (candidates : Option (List Candidate)) (status : ℕ) (old new : List (Fuse D)) (sink : Type 0) (before after : List ℕ) → IsValidScript script
    → KeepsEveryCommit held faults script candidates status old new sink before after → CountsFailures held faults script candidates status old new sink before after
counts-failures held faults script candidates status old new sink before after valid promise = record { promise = promise; counted = by promise.lines promise.left promise.went }
  where
    by : (lines : List Line) (left : Node) → Went held faults script (opening candidates) old lines left new → AreCounted faults script.config lines old new
    by lines left (inl told) = counts_law held faults script.config script.actions (opening candidates) left old new lines valid.config valid.actions told
    by lines left (inr (inl (ends, how))) =
        subst (λ l. AreCounted faults script.config l old new) (sym how.0)
        (ends-counted held faults script.config valid.config (opening candidates) script.actions old new ends (recursion_from_All (IsValidAction script.config) script.actions valid.actions))
    by lines left (inr (inr (none, same, left_alone))) =
        subst (λ l. AreCounted faults script.config l old new) (sym none)
        (counted-none faults script.config [] old new tt (told-falls held faults script.config [] (opening candidates) (opening candidates) old new [] (refl, refl, left_alone)))
