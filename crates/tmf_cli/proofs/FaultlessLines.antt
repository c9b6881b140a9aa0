-- Where no device fails, no line tells of a fault: line by line, and action by action.
use Rattle.std.specs.Prelude.{drop, map, slice_get}
use Rattle.std.specs.List.{enumerate_from}
use Rattle.std.proofs.Common.{◌≡◌, ◌⊎◌, ◌<◌, ◌++◌, ◌∷◌, [], ℕ, List, length, Option, Some, None, refl, sym, ap, subst, ◌∙◌, inl, inr, arith}
use Rattle.std.proofs.lemmas.Option.{none-some}
use Rattle.disk_model.specs.Devices.{NoneFalls, held_at}
use Rattle.disk_model.specs.Fuse.{fuse_faults}
use Rattle.disk_model.specs.Held.{Held}
use Rattle.disk_model.specs.declared.fuse.Fuse.{Fuse}
use Rattle.tmf_model.specs.declared.config.Config.{Config}
use Rattle.tmf_model.specs.declared.script.Action.{Action}
use Rattle.tmf_model.specs.declared.script.Action.TheVariants as action
use Rattle.tmf_model.specs.declared.script.Item.{Item}
use Rattle.tmf_model.specs.declared.script.Item.TheVariants.{Transaction as TransactionItem, Dump}
use Rattle.tmf_model.specs.declared.script.Phase.{Phase}
use Rattle.tmf_model.specs.declared.transid.Transid.{Transid}
use Rattle.trail_files.specs.declared.damage.Damage.{Damage}
use Rattle.trail_files.specs.declared.monitor_record.MonitorRecord.{MonitorRecord}
use Rattle.node_machine.specs.Deeds.{HasFailedFor}
use Rattle.node_machine.specs.Same.{Among}
use Rattle.node_machine.specs.declared.event.By.TheVariants.{Attempt}
use Rattle.rollforward.specs.declared.errors.RollError.{RollError}
use Rattle.rollforward.specs.declared.errors.RollError.TheVariants as roll
use Rattle.run_outcomes.specs.Devices.{devices, fuse_kind, monitor_device, part_of_device}
use Rattle.run_outcomes.specs.Ends.{times_failed}
use Rattle.run_outcomes.specs.Run.{account_of, volumes_of_item}
use Rattle.run_outcomes.specs.Told.{Account, HasDeviceFailed, IsDamaged, IsTold, item_of}
use Rattle.run_outcomes.specs.declared.outcome.Hang.TheVariants as hang
use Rattle.run_outcomes.specs.declared.outcome.Outcome.{Outcome}
use Rattle.run_outcomes.specs.declared.outcome.PhaseError.{PhaseError}
use Rattle.run_outcomes.specs.declared.outcome.PhaseError.TheVariants as phase_error
use Rattle.run_outcomes.specs.declared.outcome.Told.{Told}
use Rattle.run_outcomes.specs.declared.outcome.Told.TheVariants as told
use Rattle.run_standing.specs.NodeUp.{IsNodeUp}
use Rattle.run_standing.specs.Telling.{telling}
use Rattle.volume_recovery.specs.declared.errors.RecoverError.{RecoverError}
use Rattle.volume_recovery.specs.declared.errors.RecoverError.TheVariants as recovery
use Rattle.volume_recovery.proofs.Leaving.{some-at}
use Rattle.tmf_lines.specs.declared.line.Line.{Line}
use Rattle.tmf_lines.specs.declared.line.Line.TheVariants.{Entry, Listed, LostVolume, Recorded, Recovered}
use Rattle.tmf_lines.specs.Report.{listed_lines, lost_lines, part_name, recorded_lines, recovered_lines, spent_line, volume_name}
use Rattle.tmf_lines.specs.declared.line.PartName.{PartName}
use Rattle.tmf_lines.specs.declared.line.PartName.TheVariants.{Device, Worker}
use Rattle.tmf_model.specs.declared.script.Script.{Script}
use Rattle.tmf_cli.specs.declared.status.Status.{Status}
use Rattle.tmf_cli.specs.declared.status.Status.TheVariants as status
use Rattle.tmf_cli.specs.Ending.{EndsWhole, opening}
use Rattle.tmf_cli.specs.Faultless.{AreFaultless, FaultlessLaw, IsFaultless, IsFaultlessOutput, IsKnown}
use Rattle.tmf_cli.specs.OneOutput.{FormatsFirst, NoneRose}
use Rattle.tmf_cli.specs.Top.{Tells}
use Rattle.tmf_cli.specs.OutputLaw.{Candidate, Does, Formats, IsRecoveryLine, IsRefusedFor, IsRollLine, IsUnrolledFor, IsUnrunFor, Lists, Loses, Node, OneGoesOn, OneIsLeft, Recovers, Rolls, Runs, RunsWhole, ToldBy, after_loss, after_roll, after_stop, unrolled_node}
use Rattle.tmf_cli.specs.RunLines.{read_line, read_lines, run_lines, told_lines}
use Rattle.tmf_cli.proofs.Extending.{all-append}
use Rattle.tmf_cli.proofs.Falls.{rose-later, told-falls}
use Rattle.tmf_cli.proofs.Faultless.{failed-times, rose-from, rose-within, same-length, times-rose}
use Rattle.tmf_cli.proofs.Headlines.{all-drop, all-map}
use Rattle.tmf_cli.proofs.Unbroken.{attempt-item, item-named, undamaged}

-- LINES

one-faultless : (line : Line) (lines : List Line) → IsFaultless line → lines ≡ line ∷ [] → AreFaultless lines
one-faultless line lines fine is = subst AreFaultless (sym is) (fine, tt)

pub faultless-recovered : (config : Config) (printed : ℕ) (list : List MonitorRecord) (lost : List ℕ) (epoch : ℕ) → AreFaultless (recovered_lines config printed list lost epoch)
faultless-recovered config printed list lost epoch =
    all-append IsFaultless (drop printed (recorded_lines list) ++ lost_lines config lost) (Recovered epoch ∷ [])
    (all-append IsFaultless (drop printed (recorded_lines list)) (lost_lines config lost)
    (all-drop IsFaultless printed (recorded_lines list) (all-map IsFaultless (λ numbered. Recorded numbered.0 numbered.1) (λ a. tt) (enumerate_from 1 list)))
    (all-map IsFaultless (λ volume. LostVolume (volume_name config volume)) (λ a. tt) lost))
    (tt, tt)

pub faultless-listed : (file : List ℕ) (entries : List (List ℕ × List ℕ)) → AreFaultless (listed_lines file entries)
faultless-listed file entries =
    all-append IsFaultless (map (λ entry. Entry file entry.0 entry.1) entries) (Listed file (length entries) ∷ []) (all-map IsFaultless (λ entry. Entry file entry.0 entry.1) (λ a. tt) entries) (tt, tt)

faultless-read : (tx : Transid) (op : ℕ) (value : Option (List ℕ)) → IsFaultless (read_line tx op value)
faultless-read tx op None = tt
faultless-read tx op (Some value) = tt

pub faultless-reads : (tx : Transid) (reads : List (ℕ × Option (List ℕ))) → AreFaultless (read_lines tx reads)
faultless-reads tx reads = all-map IsFaultless (λ (read : ℕ × Option (List ℕ)). read_line tx read.0 read.1) (λ read. faultless-read tx read.0 read.1) reads

-- an attempt or item of a run that neither a failed call nor damage has ended
abbrev pub IsFaultlessTold : Told → Type 0
IsFaultlessTold (told.Failed device) = ⊥
IsFaultlessTold (told.Damaged device damage) = ⊥
IsFaultlessTold (told.InDoubt device) = ⊥
IsFaultlessTold (told.Hanging (hang.Device device)) = ⊥
IsFaultlessTold (told.Hanging (hang.Damaged device damage)) = ⊥
IsFaultlessTold _ = Unit {0}

faultless-spent : (tx : Transid) (part : PartName) → AreFaultless (spent_line tx part ∷ [])
faultless-spent tx (Worker number) = (tt, tt)
faultless-spent tx (Device device) = (tt, tt)

faultless-told : (config : Config) (tx : Transid) (tells : Told) → IsFaultlessTold tells → AreFaultless (told_lines config tx tells)
faultless-told config tx (told.Committed place reads) fine = (tt, faultless-reads tx reads)
faultless-told config tx told.Aborted fine = (tt, tt)
faultless-told config tx (told.Busy file key holder) fine = (tt, tt)
faultless-told config tx (told.Full file key) fine = (tt, tt)
faultless-told config tx (told.Refused op reason) fine = (tt, tt)
faultless-told config tx (told.Spent part) fine = faultless-spent tx (part_name config part)
faultless-told config tx (told.Failed device) fine = absurd fine
faultless-told config tx (told.Damaged device damage) fine = absurd fine
faultless-told config tx (told.InDoubt device) fine = absurd fine
faultless-told config tx (told.Hanging (hang.Device device)) fine = absurd fine
faultless-told config tx (told.Hanging (hang.Damaged device damage)) fine = absurd fine
faultless-told config tx (told.Hanging hang.Memory) fine = (tt, tt)
faultless-told config tx told.Skipped fine = (tt, tt)
faultless-told config tx told.Memory fine = (tt, tt)
faultless-told config tx (told.Controlled volume low) fine = (tt, tt)
faultless-told config tx (told.Dumped volume start) fine = (tt, tt)
faultless-told config tx (told.Dumping volume) fine = (tt, tt)

faultless-run : (config : Config) (outcomes : List Outcome) → ((o : Outcome) → Among outcomes o → IsFaultlessTold o.told) → AreFaultless (run_lines config outcomes)
faultless-run config [] each = tt
faultless-run config (o ∷ rest) each =
    all-append IsFaultless (told_lines config o.tx o.told) (run_lines config rest) (faultless-told config o.tx o.told (each o (inl refl))) (faultless-run config rest (λ other there. each other (inr there)))

-- an outcome by an account in which no call for it has failed, and no volume of its item is damaged
module _ (account : Account) (tx : Transid) (never : (device : ℕ) → HasDeviceFailed account device tx → ⊥)
    (whole : (item : Item) → item_of account.phase tx ≡ Some item → (device : ℕ) (damage : Damage) → IsDamaged account (volumes_of_item account.config item) device damage → ⊥) where
  unharmed : (tells : Told) → IsTold account (record { tx = tx; told = tells }) → IsFaultlessTold tells
  unharmed (told.Failed device) (inl is) = never device is.2
  unharmed (told.Failed device) (inr (inl is)) = never device is.2.0
  unharmed (told.Failed device) (inr (inr is)) = never device is.2.0
  unharmed (told.Damaged device damage) (inl is) = whole (TransactionItem is.0) (attempt-item account.phase account.epoch tx is.0 is.1) device damage is.2
  unharmed (told.Damaged device damage) (inr (inl is)) = absurd is.2
  unharmed (told.Damaged device damage) (inr (inr is)) = whole (Dump is.0) is.1 device damage is.2.0
  unharmed (told.InDoubt device) (inl is) = never monitor_device is.2.4
  unharmed (told.InDoubt device) (inr (inl is)) = absurd is.2
  unharmed (told.InDoubt device) (inr (inr is)) = absurd is.2
  unharmed (told.Hanging (hang.Device device)) (inl is) = never device is.2.1
  unharmed (told.Hanging (hang.Device device)) (inr (inl is)) = absurd is.2
  unharmed (told.Hanging (hang.Device device)) (inr (inr is)) = absurd is.2
  unharmed (told.Hanging (hang.Damaged device damage)) (inl is) = whole (TransactionItem is.0) (attempt-item account.phase account.epoch tx is.0 is.1) device damage is.2.1
  unharmed (told.Hanging (hang.Damaged device damage)) (inr (inl is)) = absurd is.2
  unharmed (told.Hanging (hang.Damaged device damage)) (inr (inr is)) = absurd is.2
  unharmed _ is = tt

-- WHAT IS KNOWN STAYS KNOWN

known-left : (candidates after : Option (List Candidate)) (list : List MonitorRecord) (lost : List ℕ) → IsKnown candidates → OneIsLeft candidates list lost after → IsKnown after
known-left None after list lost known is = absurd (none-some known.0 known.1)
known-left (Some standings) after list lost known is = (_, is.2)

known-gone-on : (config : Config) (phase : Phase) (epoch : ℕ) (held : ℕ → Held) (outcomes : List Outcome) (candidates after : Option (List Candidate)) → IsKnown candidates → OneGoesOn config phase epoch held outcomes candidates after → IsKnown after
known-gone-on config phase epoch held outcomes None after known is = absurd (none-some known.0 known.1)
known-gone-on config phase epoch held outcomes (Some standings) after known is = (_, is.3.candidates)

-- and then the node was up with what the devices stood for
up-with : (config : Config) (phase : Phase) (epoch : ℕ) (held : ℕ → Held) (outcomes : List Outcome) (candidates after : Option (List Candidate)) → IsKnown candidates → OneGoesOn config phase epoch held outcomes candidates after
    → (s : Candidate) × IsNodeUp config held s.list s.map epoch
up-with config phase epoch held outcomes None after known is = absurd (none-some known.0 known.1)
up-with config phase epoch held outcomes (Some standings) after known is = (is.0, is.2)

-- ONE ACTION

-- its lines tell of no fault, and it is known what the devices may stand for behind it
abbrev IsFine : List Line → Node → Type 0
IsFine lines after = AreFaultless lines × IsKnown after.candidates

fine : (line : Line) (lines : List Line) (after left : Node) → IsFaultless line → lines ≡ line ∷ [] → after ≡ left → IsKnown left.candidates → IsFine lines after
fine line lines after left faultless is same known = (one-faultless line lines faultless is, subst (λ (n : Node). IsKnown n.candidates) (sym same) known)

module _ {D : Type 0} (held : D → Held) (faults : D → ℕ) (config : Config) where
  format-fine : (node after : Node) (old new : List (Fuse D)) (lines : List Line) → NoneRose faults old new → Formats held faults config node old lines after new → IsFine lines after
  format-fine node after old new lines quiet (inl (is, left, gone)) = fine _ lines after _ tt is left (_, refl)
  format-fine node after old new lines quiet (inr (failed, left)) = absurd (quiet failed.0 failed.1.1)

  recovery-fine : (node after : Node) (old new : List (Fuse D)) (lines : List Line) → IsKnown node.candidates → NoneRose faults old new → Recovers held faults config node old lines after new → IsFine lines after
  recovery-fine node after old new lines known quiet (inl (formatted, is, left, same)) = fine _ lines after node tt is left known
  recovery-fine node after old new lines known quiet (inr (inl (formatted, whole))) =
      (subst AreFaultless (sym whole.printed) (faultless-recovered config node.state.printed whole.list _ _), known-left node.candidates after.candidates whole.list _ known whole.stands)
  recovery-fine node after old new lines known quiet (inr (inr (formatted, refused))) =
      fine refused.line lines after _ (by refused.error refused.why refused.is_line) refused.printed refused.stopped (_, ap after_stop known.1)
    where
      by : (error : RecoverError) → IsRefusedFor faults config node old new error → IsRecoveryLine config error refused.line → IsFaultless refused.line
      by (recovery.Failed device) why is = absurd (quiet device why.1)
      by (recovery.Damaged device damage) why is = absurd (none-some known.0 (sym why ∙ known.1))
      by recovery.EpochsSpent why is = subst IsFaultless (sym is) tt
      by recovery.NoMemory why is = absurd why

  -- no call has failed for an attempt or item of a run
  never-failed : (phase : Phase) (node after : Node) (old new : List (Fuse D)) (lines : List Line) (run : RunsWhole held faults config phase node old lines after new) → length old ≡ devices → NoneFalls faults old new
      → NoneRose faults old new → (device : ℕ) (tx : Transid) → device < devices → HasFailedFor run.ran.log (part_of_device device) (Attempt tx) → ⊥
  never-failed phase node after old new lines run count falls quiet device tx within failed =
      let before = some-at old device (omega (arith, within, count)) in
      quiet device
      (rose-within faults old run.opened run.closed new device before.0 run.on run.off falls before.1
      (λ was is was_at is_at. times-rose (times_failed (part_of_device device) run.ran.log) (fuse_faults faults was) (fuse_faults faults is) (failed-times run.ran.log (part_of_device device) (Attempt tx) failed)
      (run.ran.failed device was is was_at is_at)))

  -- so neither a failed call nor damage has ended one of a run of a node of which it was known what its devices may stand for
  pub outcomes-fine : (phase : Phase) (node after : Node) (old new : List (Fuse D)) (lines : List Line) → length old ≡ devices → NoneFalls faults old new → IsKnown node.candidates → NoneRose faults old new
      → (run : RunsWhole held faults config phase node old lines after new) → (o : Outcome) → Among run.outcomes o → IsFaultlessTold o.told
  outcomes-fine phase node after old new lines count falls known quiet run o there =
      let account : Account = account_of (fuse_kind (telling held faults)) config phase run.up.epoch (λ number. slice_get run.opened number) run.ran.found run.ran.log in
      let up = up-with config phase run.up.epoch (held_at held run.opened) run.outcomes node.candidates after.candidates known run.stands in
      unharmed account o.tx (λ device failed. never-failed phase node after old new lines run count falls quiet device o.tx failed.0 failed.1)
      (λ item is device damage damaged.
      undamaged held faults config phase run.up.epoch run.opened up.0.list up.0.map up.1 run.present account refl (volumes_of_item config item) (λ v among. item-named config phase o.tx item v is among) device damage damaged)
      o.told (run.ran.told.each o there).told

  run-fine : (phase : Phase) (node after : Node) (old new : List (Fuse D)) (lines : List Line) → length old ≡ devices → NoneFalls faults old new → IsKnown node.candidates → NoneRose faults old new
      → Runs held faults config phase node old lines after new → IsFine lines after
  run-fine phase node after old new lines count falls known quiet (inl (down, is, left, same)) = fine _ lines after node tt is left known
  run-fine phase node after old new lines count falls known quiet (inr (inl run)) = (
    subst AreFaultless (sym run.printed) (faultless-run config run.outcomes (outcomes-fine phase node after old new lines count falls known quiet run)),
    known-gone-on config phase run.up.epoch (held_at held run.opened) run.outcomes node.candidates after.candidates known run.stands,
  )
  run-fine phase node after old new lines count falls known quiet (inr (inr not)) = fine not.line lines after _ (by not.error not.why) not.printed not.left known
    where
      by : (error : PhaseError) → IsUnrunFor faults node.candidates old new error → IsFaultless not.line
      by (phase_error.Failed device) why = absurd (quiet device why)
      by (phase_error.Damaged device damage) why = absurd (none-some known.0 (sym why ∙ known.1))
      by phase_error.NoMemory why = absurd why

  loss-fine : (volume : ℕ) (node after : Node) (old new : List (Fuse D)) (lines : List Line) → IsKnown node.candidates → NoneRose faults old new → Loses held faults config volume node old lines after new → IsFine lines after
  loss-fine volume node after old new lines known quiet (leaves, inl (is, gone, left)) = fine _ lines after _ tt is left (_, ap (after_loss config volume) known.1)
  loss-fine volume node after old new lines known quiet (leaves, inr (failed, left)) = absurd (quiet failed.0 failed.1.1)

  roll-fine : (volume : ℕ) (node after : Node) (old new : List (Fuse D)) (lines : List Line) → IsKnown node.candidates → NoneRose faults old new → Rolls held faults config volume node old lines after new → IsFine lines after
  roll-fine volume node after old new lines known quiet (inl (down, is, left, same)) = fine _ lines after node tt is left known
  roll-fine volume node after old new lines known quiet (inr (leaves, inl whole)) = fine _ lines after _ tt whole.printed whole.rolled (_, ap (after_roll volume) known.1)
  roll-fine volume node after old new lines known quiet (inr (leaves, inr refused)) = by refused.error refused.why refused.is_line refused.refused
    where
      by : (error : RollError) → IsUnrolledFor faults config volume node.candidates refused.up old new error → IsRollLine config volume error refused.line → after ≡ unrolled_node volume error node → IsFine lines after
      by roll.NotLost why is left = fine refused.line lines after _ (subst IsFaultless (sym is) tt) refused.printed left known
      by roll.NoDump why is left = fine refused.line lines after _ (subst IsFaultless (sym is) tt) refused.printed left known
      by (roll.Failed device) why is left = absurd (quiet device why.1)
      by (roll.Damaged device damage) why is left = absurd (none-some known.0 (sym why ∙ known.1))
      by roll.NoMemory why is left = absurd why

  listing-fine : (file : ℕ) (node after : Node) (old new : List (Fuse D)) (lines : List Line) → IsKnown node.candidates → NoneRose faults old new → Lists held faults config file node old lines after new → IsFine lines after
  listing-fine file node after old new lines known quiet (inl (down, is, left, same)) = fine _ lines after node tt is left known
  listing-fine file node after old new lines known quiet (inr (up, left, hold, inl listed)) =
      (subst AreFaultless (sym listed.2) (faultless-listed _ listed.0), subst (λ (n : Node). IsKnown n.candidates) (sym left) known)
  listing-fine file node after old new lines known quiet (inr (up, left, hold, inr failed)) = absurd (quiet failed.0 failed.1.1)

  does-fine : (done : Action) (node after : Node) (old new : List (Fuse D)) (lines : List Line) → length old ≡ devices → NoneFalls faults old new → IsKnown node.candidates → NoneRose faults old new
      → Does held faults config done node old lines after new → IsFine lines after
  does-fine action.Format node after old new lines count falls known quiet does = format-fine node after old new lines quiet does
  does-fine (action.Recover kill) node after old new lines count falls known quiet does = recovery-fine node after old new lines known quiet does
  does-fine (action.Run phase) node after old new lines count falls known quiet does = run-fine phase node after old new lines count falls known quiet does
  does-fine (action.Lose volume) node after old new lines count falls known quiet does = loss-fine volume node after old new lines known quiet does
  does-fine (action.Rollforward volume kill) node after old new lines count falls known quiet does = roll-fine volume node after old new lines known quiet does
  does-fine (action.List file) node after old new lines count falls known quiet does = listing-fine file node after old new lines known quiet does

  -- ALL ACTIONS

  faultless-lines : (actions : List Action) (before after : Node) (old new : List (Fuse D)) (lines : List Line) → length old ≡ devices → IsKnown before.candidates → ToldBy held faults config actions before old lines after new
      → NoneRose faults old new → AreFaultless lines
  faultless-lines [] before after old new lines count known told quiet = subst AreFaultless (sym told.0) tt
  faultless-lines (done ∷ rest) before after old new lines count known (first, more, middle, between, does, stands, counts, told, parts) quiet =
      let later = told-falls held faults config rest middle after between new more told in
      let is_fine = does-fine done before middle old between first count counts.falls known (λ device rise. quiet device (rose-later faults old between new device later rise)) does in
      subst AreFaultless (sym parts) (all-append IsFaultless first more is_fine.0
      (faultless-lines rest middle after between new more (same-length _ old between counts.falls ∙ count) is_fine.1 told (λ device rise. quiet device (rose-from faults old between new device counts.falls later rise))))

  -- behind a format it is known what the devices may stand for, whatever was known before it
  faultless-format : (rest : List Action) (before after : Node) (old new : List (Fuse D)) (lines : List Line) → length old ≡ devices → ToldBy held faults config (action.Format ∷ rest) before old lines after new
      → NoneRose faults old new → AreFaultless lines
  faultless-format rest before after old new lines count (first, more, middle, between, does, stands, counts, told, parts) quiet =
      let later = told-falls held faults config rest middle after between new more told in
      let is_fine = format-fine before middle old between first (λ device rise. quiet device (rose-later faults old between new device later rise)) does in
      subst AreFaultless (sym parts) (all-append IsFaultless first more is_fine.0
      (faultless-lines rest middle after between new more (same-length _ old between counts.falls ∙ count) is_fine.1 told (λ device rise. quiet device (rose-from faults old between new device counts.falls later rise))))

  -- Where no device fails, no line tells of a fault.
  pub faultless : FaultlessLaw held faults config
  faultless actions before after old new lines count (inl known) told quiet = faultless-lines actions before after old new lines count known told quiet
  faultless actions before after old new lines count (inr (rest, is)) told quiet =
      faultless-format rest before after old new lines count (subst (λ a. ToldBy held faults config a before old lines after new) is told) quiet

-- so are the lines of a script that was carried out to its end
pub the_faultless : {D : Type 0} (held : D → Held) (faults : D → ℕ) (script : Script) (candidates : Option (List Candidate)) (old new : List (Fuse D)) (sink : Type 0) (before after : List ℕ) → sink → length old ≡ devices
    → IsKnown candidates ⊎ FormatsFirst script → NoneRose faults old new → (how : Status) → how ≡ status.Done → Tells held faults script candidates how old new sink before after → IsFaultlessOutput before after
the_faultless held faults script candidates old new sink before after tells count known none how done told = record {
  lines = whole.lines;
  given = whole.given tells;
  all = faultless held faults script.config script.actions (opening candidates) whole.left old new whole.lines count known whole.told none;
}
  where
    whole : EndsWhole held faults script.config (opening candidates) script.actions old new sink before after
    whole = subst (λ s. Tells held faults script candidates s old new sink before after) done told
