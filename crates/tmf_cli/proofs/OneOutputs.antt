-- Two outputs of one script.
use Rattle.std.specs.Prelude.{if◌then◌else◌, max, map, slice_get, slice_index, unwrap_or, Contains, option_map}
use Rattle.std.specs.List.{AllByRecursion}
use Rattle.std.specs.Option.{option_map_or}
use Rattle.std.proofs.Common.{zero, suc, true, false, ◌≡◌, ◌≢◌, ◌==◌, ◌||◌, ◌⊎◌, ◌++◌, ◌∷◌, [], ℕ, Bool, List, length, Option, Some, None, refl, sym, ap, subst, ◌∙◌, inl, inr, ⊎_elim, arith, eq-eqb, eqb-true}
use Rattle.std.proofs.lemmas.List.{append-nil}
use Rattle.std.proofs.lemmas.Option.{none-some}
use Rattle.tmf_model.specs.declared.config.Config.{Config}
use Rattle.tmf_model.specs.declared.config.Volume.{Volume}
use Rattle.tmf_model.specs.declared.script.Action.{Action}
use Rattle.tmf_model.specs.declared.script.Action.TheVariants as action
use Rattle.tmf_model.specs.declared.script.Phase.{Phase}
use Rattle.tmf_model.specs.declared.script.Script.{Script}
use Rattle.tmf_model.specs.declared.transid.Transid.{Transid}
use Rattle.tmf_model.specs.Config.{IsDeclared, IsValidConfig}
use Rattle.tmf_model.specs.RecordMap.{IsListing}
use Rattle.tmf_model.proofs.Listings.{IsListing-unique}
use Rattle.disk_model.specs.Devices.{DeviceAt, HoldSame, NoneFalls, SameBut, held_at}
use Rattle.disk_model.specs.Fuse.{device_of}
use Rattle.disk_model.specs.Held.{File, Held, IsSound, Leaves, synced}
use Rattle.disk_model.specs.declared.fuse.Fuse.{Fuse}
use Rattle.trail_files.specs.StandsFor.{IsNumber}
use Rattle.trail_files.specs.declared.monitor_record.MonitorRecord.{MonitorRecord}
use Rattle.node_machine.specs.Same.{Among}
use Rattle.keyed_file.specs.Volume.{IsLost}
use Rattle.block_cache.specs.Created.{IsSurelyLost}
use Rattle.rollforward.specs.declared.errors.RollError.{RollError}
use Rattle.rollforward.specs.declared.errors.RollError.TheVariants as roll
use Rattle.rollforward.specs.Rolls.{IsFailure, TellsRoll}
use Rattle.run_outcomes.specs.Devices.{devices}
use Rattle.run_outcomes.specs.Outcomes.{is_last}
use Rattle.run_outcomes.specs.declared.outcome.Hang.TheVariants as hang
use Rattle.run_outcomes.specs.declared.outcome.Outcome.{Outcome}
use Rattle.run_outcomes.specs.declared.outcome.PhaseError.{PhaseError}
use Rattle.run_outcomes.specs.declared.outcome.PhaseError.TheVariants as phase_error
use Rattle.run_outcomes.specs.declared.outcome.Told.{Told}
use Rattle.run_outcomes.specs.declared.outcome.Told.TheVariants as told
use Rattle.single_law.specs.Dumps.{DumpsGoOn, IsSurelyDumped}
use Rattle.single_law.specs.Left.{records_left}
use Rattle.single_law.specs.One.{AreSameOutcomes, OneRunLaw}
use Rattle.single_law.specs.Single.{HaveEnded}
use Rattle.single_law.proofs.Positions.{records_same}
use Rattle.volume_restore.specs.Formatted.{IsEmptied}
use Rattle.volume_recovery.specs.declared.errors.RecoverError.{RecoverError}
use Rattle.volume_recovery.specs.declared.errors.RecoverError.TheVariants as recovery
use Rattle.volume_recovery.specs.Node.{next_epoch}
use Rattle.volume_recovery.specs.VolumeAnswers.{lost_among}
use Rattle.volume_recovery.specs.VolumeNode.{dump_device, volume_device}
use Rattle.volume_recovery.proofs.VolumeLosing.{image-synced}
use Rattle.tmf_lines.specs.declared.line.Line.{Line}
use Rattle.tmf_lines.specs.declared.line.Line.TheVariants.{Formatted, NoDump, NotLost, Rolled}
use Rattle.tmf_lines.specs.declared.line.PartName.{PartName}
use Rattle.tmf_lines.specs.declared.line.PartName.TheVariants.{Device, Worker}
use Rattle.tmf_lines.specs.Report.{file_name_of, listed_lines, part_name, recovered_lines, spent_line, volume_name}
use Rattle.tmf_cli.specs.declared.node.Up.{Up}
use Rattle.tmf_cli.specs.declared.status.Status.{Status}
use Rattle.tmf_cli.specs.declared.status.Status.TheVariants as status
use Rattle.tmf_cli.specs.Countdown.{IsSwitched}
use Rattle.tmf_cli.specs.Ending.{EndsWhole, opening}
use Rattle.tmf_cli.specs.Lost.{is_lost_volume, lost_flags, up_for}
use Rattle.tmf_cli.specs.OneOutput.{AreSameLines, AreUnlimited, FormatsFirst, IsOutput, IsTheOutput, NoneRose, OneOutput, is_limit}
use Rattle.tmf_cli.specs.OutputLaw.{AreSettled, Candidate, Does, Formats, GoesOn, IsRecoveryLine, IsRefusedFor, IsRollLine, IsUnrolledFor, IsUnrunFor, KeepsDumps, LeavesRolled, Lists, ListsOf, Loses, Node, OneGoesOn, OneIsLeft, OneOf, Recovers, RecoversNot, Rolls, RollsNot, RollsWhole, Runs, RunsNot, RunsWhole, ToldBy, after_loss, after_roll, formatted_candidate, formatted_node, unrolled_node, with_back, with_lost, with_records, with_start}
use Rattle.tmf_cli.specs.RunLines.{run_lines, told_lines}
use Rattle.tmf_cli.specs.Single.{AreSingle, IsSingle, IsSingleAction, items_of}
use Rattle.tmf_cli.specs.Top.{Tells}
use Rattle.tmf_cli.proofs.Bays.{held-is, held-same}
use Rattle.tmf_cli.proofs.Dumps.{cleared-lost, dumps-cleared, dumps-same}
use Rattle.tmf_cli.proofs.Falls.{rose-later, told-falls}
use Rattle.tmf_cli.proofs.Faultless.{rose-from, same-length}
use Rattle.tmf_cli.proofs.FaultlessLines.{IsFaultlessTold, outcomes-fine}
use Rattle.tmf_cli.proofs.ItemDumps.{has_dump_of, dump-told, worker-dumps}
use Rattle.tmf_cli.proofs.Losses.{number-at}
use Rattle.tmf_cli.proofs.PlainLines.{alike, both-alike, lines-exact, run-alike}

some_same : {T : Type 0} (a b : T) → Some a ≡ Some b → a ≡ b
some_same a b e = ap (λ o. unwrap_or o a) e

-- LINES THAT TELL OF NO LIMIT

front-unlimited : (xs ys : List Line) → AreUnlimited (xs ++ ys) → AreUnlimited xs
front-unlimited [] ys all = tt
front-unlimited (x ∷ xs) ys all = (all.0, front-unlimited xs ys all.1)

back-unlimited : (xs ys : List Line) → AreUnlimited (xs ++ ys) → AreUnlimited ys
back-unlimited [] ys all = all
back-unlimited (x ∷ xs) ys all = back-unlimited xs ys all.1

limited : (line : Line) → is_limit line ≡ true → is_limit line ≡ false → ⊥
limited line is none = let never : true ≡ false = sym is ∙ none in cc never

spent-limited : (tx : Transid) (part : PartName) → is_limit (spent_line tx part) ≡ true
spent-limited tx (Worker number) = refl
spent-limited tx (Device device) = refl

-- an outcome that no fault has ended, and that tells of no limit, is none behind which its worker ends
told-settled : (config : Config) (tx : Transid) (tells : Told) → IsFaultlessTold tells → AreUnlimited (told_lines config tx tells) → is_last tells ≡ false
told-settled config tx (told.Committed place reads) fine unlimited = refl
told-settled config tx told.Aborted fine unlimited = refl
told-settled config tx (told.Busy file key holder) fine unlimited = refl
told-settled config tx (told.Full file key) fine unlimited = refl
told-settled config tx (told.Refused op reason) fine unlimited = refl
told-settled config tx (told.Spent part) fine unlimited = absurd (limited (spent_line tx (part_name config part)) (spent-limited tx (part_name config part)) unlimited.0)
told-settled config tx (told.Failed device) fine unlimited = absurd fine
told-settled config tx (told.Damaged device damage) fine unlimited = absurd fine
told-settled config tx (told.InDoubt device) fine unlimited = absurd fine
told-settled config tx (told.Hanging (hang.Device device)) fine unlimited = absurd fine
told-settled config tx (told.Hanging (hang.Damaged device damage)) fine unlimited = absurd fine
told-settled config tx (told.Hanging hang.Memory) fine unlimited = absurd (cc unlimited.0)
told-settled config tx told.Skipped fine unlimited = refl
told-settled config tx told.Memory fine unlimited = absurd (cc unlimited.0)
told-settled config tx (told.Controlled volume low) fine unlimited = refl
told-settled config tx (told.Dumped volume start) fine unlimited = refl
told-settled config tx (told.Dumping volume) fine unlimited = refl

among : {T : Type 0} (xs : List T) (x : T) → Contains xs x → Among xs x
among [] x (number, less, is) = absurd (omega (arith, less))
among (y ∷ xs) x (zero, less, is) = inl is
among (y ∷ xs) x (suc number, less, is) = inr (among xs x (number, omega (arith, less), is))

-- so are all of a run
settled : (config : Config) (outcomes : List Outcome) → ((o : Outcome) → Among outcomes o → IsFaultlessTold o.told) → AreUnlimited (run_lines config outcomes) → AreSettled outcomes
settled config outcomes fine unlimited outcome there = each outcomes fine unlimited (among outcomes outcome there)
  where
    each : (some : List Outcome) → ((o : Outcome) → Among some o → IsFaultlessTold o.told) → AreUnlimited (run_lines config some) → Among some outcome → is_last outcome.told ≡ false
    each [] fine unlimited there = absurd there
    each (o ∷ rest) fine unlimited (inl is) =
        subst (λ (x : Outcome). is_last x.told ≡ false) is (told-settled config o.tx o.told (fine o (inl refl)) (front-unlimited (told_lines config o.tx o.told) (run_lines config rest) unlimited))
    each (o ∷ rest) fine unlimited (inr there) = each rest (λ x within. fine x (inr within)) (back-unlimited (told_lines config o.tx o.told) (run_lines config rest) unlimited) there

-- ONE STEP

-- it is known what the devices may stand for, and that is this list and map alone
abbrev AreOnly : Option (List Candidate) → Candidate → Type 0
AreOnly candidates s = (standings : List Candidate) × (candidates ≡ Some standings) × AllByRecursion (λ t. t ≡ s) standings

only-of : (s : Candidate) (standings : List Candidate) → AreOnly (Some standings) s → AllByRecursion (λ t. t ≡ s) standings
only-of s standings (others, is, all) = subst (AllByRecursion (λ t. t ≡ s)) (some_same others standings (sym is)) all

only-one : (P : Candidate → Type 0) (s : Candidate) (standings : List Candidate) → AllByRecursion (λ t. t ≡ s) standings → OneOf P standings → P s
only-one P s [] all one = absurd one
only-one P s (t ∷ rest) all (inl is) = subst P all.0 is
only-one P s (t ∷ rest) all (inr one) = only-one P s rest all.1 one

only-lost : (config : Config) (volume : ℕ) (s : Candidate) (standings : List Candidate) → AllByRecursion (λ t. t ≡ s) standings → AllByRecursion (λ t. t ≡ with_lost config volume s) (map (with_lost config volume) standings)
only-lost config volume s [] all = tt
only-lost config volume s (t ∷ rest) all = (ap (with_lost config volume) all.0, only-lost config volume s rest all.1)

-- two steps have the same lines, apart from positions, and leave the same node, of which that is so
abbrev Same : List Line → List Line → Node → Node → Type 0
Same lines other after other_after = AreSameLines lines other × (after ≡ other_after) × ((s : Candidate) × AreOnly after.candidates s)

same-node : (a b : Node) → a.state ≡ b.state → a.candidates ≡ b.candidates → a ≡ b
same-node a b state candidates = ap (λ s. record { state = s; candidates = a.candidates }) state ∙ ap (λ m. record { state = b.state; candidates = m }) candidates

-- a node that is as it was
still-only : (node after : Node) (s : Candidate) → after ≡ node → AreOnly node.candidates s → (t : Candidate) × AreOnly after.candidates t
still-only node after s is only = (s, subst (λ (n : Node). AreOnly n.candidates s) (sym is) only)

-- of one that stands it goes on
continued : (s : Candidate) (candidates after : Option (List Candidate)) (list : List MonitorRecord) (lost : List ℕ) → AreOnly candidates s → OneIsLeft candidates list lost after → (s.list ≡ list) × (s.lost ≡ lost) × (after ≡ Some (with_start s ∷ []))
continued s None after list lost only is = absurd (none-some only.0 only.1)
continued s (Some standings) after list lost only is =
    let goes : Candidate = record { list = list; map = is.0; lost = lost } in
    let at : s ≡ goes = only-one (λ o. o ≡ goes) s standings (only-of s standings only) is.1 in
    (ap (λ (o : Candidate). o.list) at, ap (λ (o : Candidate). o.lost) at, is.2 ∙ ap (λ (o : Candidate). Some (with_start o ∷ [])) (sym at))

-- so it does behind a run
went : (config : Config) (phase : Phase) (epoch : ℕ) (held : ℕ → Held) (outcomes : List Outcome) (s : Candidate) (candidates after : Option (List Candidate)) → AreOnly candidates s
    → OneGoesOn config phase epoch held outcomes candidates after → GoesOn config phase epoch outcomes s after
went config phase epoch held outcomes s None after only is = absurd (none-some only.0 only.1)
went config phase epoch held outcomes s (Some standings) after only is =
    subst (λ t. GoesOn config phase epoch outcomes t after) (sym (only-one (λ t. t ≡ is.0) s standings (only-of s standings only) is.1)) is.3

-- behind a single run whose outcomes are settled stand their records
abbrev with_outcomes : Phase → ℕ → List Outcome → Candidate → Candidate
with_outcomes phase epoch outcomes s = with_records phase epoch (records_left outcomes) s

ended-so : (config : Config) (phase : Phase) (epoch : ℕ) (outcomes : List Outcome) (s : Candidate) (after : Option (List Candidate)) → IsSingle phase → AreSettled outcomes → GoesOn config phase epoch outcomes s after
    → HaveEnded config phase epoch (items_of phase) s.list s.map outcomes × (after ≡ Some (with_outcomes phase epoch outcomes s ∷ with_outcomes phase epoch outcomes s ∷ []))
ended-so config phase epoch outcomes s after single are goes =
    let exact = goes.exact single are in
    let whole : goes.landed ++ goes.offered ≡ records_left outcomes = ap (λ l. goes.landed ++ l) exact.none_offered ∙ append-nil goes.landed ∙ exact.landed_are in (
      exact.ended,
      goes.candidates ∙ ap (λ l. Some (with_records phase epoch l s ∷ with_records phase epoch (goes.landed ++ goes.offered) s ∷ [])) exact.landed_are
          ∙ ap (λ l. Some (with_outcomes phase epoch outcomes s ∷ with_records phase epoch l s ∷ [])) whole,
    )

listed : {D : Type 0} (held : D → Held) (faults : D → ℕ) (config : Config) (s : Candidate) (candidates : Option (List Candidate)) (file : ℕ) (devices : List (Fuse D)) (entries : List (List ℕ × List ℕ)) → AreOnly candidates s
    → ListsOf held faults config candidates file devices entries → IsListing s.map file entries
listed held faults config s None file devices entries only is = absurd (none-some only.0 only.1)
listed held faults config s (Some standings) file devices entries only is = only-one (λ o. IsListing o.map file entries) s standings (only-of s standings only) is

loss-only : (config : Config) (volume : ℕ) (s : Candidate) (candidates : Option (List Candidate)) → AreOnly candidates s → AreOnly (after_loss config volume candidates) (with_lost config volume s)
loss-only config volume s None only = absurd (none-some only.0 only.1)
loss-only config volume s (Some standings) only = (map (with_lost config volume) standings, refl, only-lost config volume s standings (only-of s standings only))

only-back : (volume : ℕ) (s : Candidate) (standings : List Candidate) → AllByRecursion (λ t. t ≡ s) standings → AllByRecursion (λ t. t ≡ with_back volume s) (map (with_back volume) standings)
only-back volume s [] all = tt
only-back volume s (t ∷ rest) all = (ap (with_back volume) all.0, only-back volume s rest all.1)

roll-only : (volume : ℕ) (s : Candidate) (candidates : Option (List Candidate)) → AreOnly candidates s → AreOnly (after_roll volume candidates) (with_back volume s)
roll-only volume s None only = absurd (none-some only.0 only.1)
roll-only volume s (Some standings) only = (map (with_back volume) standings, refl, only-back volume s standings (only-of s standings only))

-- WHICH VOLUMES HAVE A DUMP

-- whatever a crash leaves of what is held, there is a dump, or there is none
abbrev pub IsDumpedAs : Config → ℕ → Bool → Held → Type 0
IsDumpedAs config volume true held = IsSurelyDumped config volume held
IsDumpedAs config volume false held = IsSurelyLost held

-- so it is of the dump device of each volume
abbrev pub AreDumpedAs : {D : Type 0} → (D → Held) → Config → (ℕ → Bool) → List (Fuse D) → Type 0
AreDumpedAs held config dumped devices = (volume : ℕ) → IsDeclared config.volumes volume → IsDumpedAs config volume (dumped volume) (held_at held devices (dump_device volume))

-- which have one behind a run, where it is begun
abbrev pub with_dumps : Phase → Option Up → (ℕ → Bool) → ℕ → Bool
with_dumps phase None dumped volume = dumped volume
with_dumps phase (Some up) dumped volume = dumped volume || has_dump_of volume (items_of phase)

-- which have one behind an action
abbrev pub dumped_behind : Config → Action → Node → (ℕ → Bool) → ℕ → Bool
dumped_behind config action.Format node dumped volume = false
dumped_behind config (action.Recover kill) node dumped volume = dumped volume
dumped_behind config (action.Run phase) node dumped volume = with_dumps phase (up_for config phase node.state) dumped volume
dumped_behind config (action.Lose lost) node dumped volume = if dump_device volume == volume_device lost then false else dumped volume
dumped_behind config (action.Rollforward rolled kill) node dumped volume = dumped volume
dumped_behind config (action.List file) node dumped volume = dumped volume

-- the files of each device are sound
abbrev pub AreSound : {D : Type 0} → (D → Held) → Type 0
AreSound {D} held = (d : D) (n : ℕ) (file : File) → held d n ≡ Some file → IsSound file

module _ {D : Type 0} (held : D → Held) (faults : D → ℕ) (config : Config) where
  never-refused : (node after : Node) (s : Candidate) (old new : List (Fuse D)) (lines : List Line) → AreOnly node.candidates s → NoneRose faults old new → AreUnlimited lines → RecoversNot held faults config node old lines after new → ⊥
  never-refused node after s old new lines only quiet unlimited refused = by refused.error refused.why refused.is_line
    where
      by : (error : RecoverError) → IsRefusedFor faults config node old new error → IsRecoveryLine config error refused.line → ⊥
      by (recovery.Failed device) why is = quiet device why.1
      by (recovery.Damaged device damage) why is = none-some only.0 (sym why ∙ only.1)
      by recovery.EpochsSpent why is = limited refused.line (ap is_limit is) (subst AreUnlimited refused.printed unlimited).0
      by recovery.NoMemory why is = why

  recover-same : (node a b : Node) (s : Candidate) (old new other_old other_new : List (Fuse D)) (lines other : List Line) → AreOnly node.candidates s → NoneRose faults old new → NoneRose faults other_old other_new → AreUnlimited lines → AreUnlimited other
      → Recovers held faults config node old lines a new → Recovers held faults config node other_old other b other_new → Same lines other a b
  recover-same node a b s old new other_old other_new lines other only q r u v (inl (down, is, left, same)) (inl (down_too, is_too, left_too, same_too)) =
      (alike lines other (is ∙ sym is_too), left ∙ sym left_too, still-only node a s left only)
  recover-same node a b s old new other_old other_new lines other only q r u v (inl (down, is, left, same)) (inr (inl (formatted, whole))) = absurd (cc (sym down ∙ formatted))
  recover-same node a b s old new other_old other_new lines other only q r u v (inl (down, is, left, same)) (inr (inr (formatted, refused))) = absurd (cc (sym down ∙ formatted))
  recover-same node a b s old new other_old other_new lines other only q r u v (inr (inl (formatted, whole))) (inl (down, is, left, same)) = absurd (cc (sym down ∙ formatted))
  recover-same node a b s old new other_old other_new lines other only q r u v (inr (inr (formatted, refused))) (inl (down, is, left, same)) = absurd (cc (sym down ∙ formatted))
  recover-same node a b s old new other_old other_new lines other only q r u v (inr (inl (formatted, one))) (inr (inl (formatted_too, two))) =
      let lost_one = lost_among one.images (length config.volumes) in
      let lost_two = lost_among two.images (length config.volumes) in
      let first = continued s node.candidates a.candidates one.list lost_one only one.stands in
      let second = continued s node.candidates b.candidates two.list lost_two only two.stands in
      let list : one.list ≡ two.list = sym first.0 ∙ second.0 in
      let lost : lost_one ≡ lost_two = sym first.1 ∙ second.1 in (
        alike lines other (one.printed ∙ ap (λ l. recovered_lines config node.state.printed l lost_one (next_epoch l)) list ∙ ap (λ l. recovered_lines config node.state.printed two.list l (next_epoch two.list)) lost ∙ sym two.printed),
        same-node a b
            (one.state ∙ ap (λ (l : List MonitorRecord). record { up = Some (record { epoch = next_epoch l; lost = lost_flags lost_one }); formatted = true; printed = max node.state.printed (length l) }) list
            ∙ ap (λ (l : List ℕ). record { up = Some (record { epoch = next_epoch two.list; lost = lost_flags l }); formatted = true; printed = max node.state.printed (length two.list) }) lost ∙ sym two.state)
            (first.2 ∙ sym second.2),
        (with_start s, (with_start s ∷ [], first.2, (refl, tt))),
      )
  recover-same node a b s old new other_old other_new lines other only q r u v (inr (inr (formatted, refused))) second = absurd (never-refused node a s old new lines only q u refused)
  recover-same node a b s old new other_old other_new lines other only q r u v (inr (inl whole)) (inr (inr (formatted, refused))) = absurd (never-refused node b s other_old other_new other only r v refused)

  never-unrun : (phase : Phase) (node after : Node) (s : Candidate) (old new : List (Fuse D)) (lines : List Line) → AreOnly node.candidates s → NoneRose faults old new → RunsNot held faults config phase node old lines after new → ⊥
  never-unrun phase node after s old new lines only quiet unrun = by unrun.error unrun.why
    where
      by : (error : PhaseError) → IsUnrunFor faults node.candidates old new error → ⊥
      by (phase_error.Failed device) why = quiet device why
      by (phase_error.Damaged device damage) why = none-some only.0 (sym why ∙ only.1)
      by phase_error.NoMemory why = why

  -- a single run that is whole
  run-ended : (phase : Phase) (node after : Node) (s : Candidate) (old new : List (Fuse D)) (lines : List Line) → IsSingle phase → AreOnly node.candidates s → NoneFalls faults old new → NoneRose faults old new → AreUnlimited lines
      → (run : RunsWhole held faults config phase node old lines after new)
      → HaveEnded config phase run.up.epoch (items_of phase) s.list s.map run.outcomes × (after.candidates ≡ Some (with_outcomes phase run.up.epoch run.outcomes s ∷ with_outcomes phase run.up.epoch run.outcomes s ∷ []))
  run-ended phase node after s old new lines single only falls quiet unlimited run =
      let count : length old ≡ devices = sym (same-length IsSwitched old run.opened run.on) ∙ run.all.0 in
      let fine = outcomes-fine held faults config phase node after old new lines count falls (only.0, only.1) quiet run in
      ended-so config phase run.up.epoch run.outcomes s after.candidates single (settled config run.outcomes fine (subst AreUnlimited run.printed unlimited))
      (went config phase run.up.epoch (held_at held run.opened) run.outcomes s node.candidates after.candidates only run.stands)

  run-same : OneRunLaw → (phase : Phase) (node a b : Node) (s : Candidate) (old new other_old other_new : List (Fuse D)) (lines other : List Line) → IsSingle phase → AreOnly node.candidates s → NoneFalls faults old new → NoneFalls faults other_old other_new
      → NoneRose faults old new → NoneRose faults other_old other_new → AreUnlimited lines → AreUnlimited other
      → Runs held faults config phase node old lines a new → Runs held faults config phase node other_old other b other_new → Same lines other a b
  run-same one_run phase node a b s old new other_old other_new lines other single only f g q r u v (inl (down, is, left, same)) (inl (down_too, is_too, left_too, same_too)) =
      (alike lines other (is ∙ sym is_too), left ∙ sym left_too, still-only node a s left only)
  run-same one_run phase node a b s old new other_old other_new lines other single only f g q r u v (inl (down, is, left, same)) (inr (inl whole)) = absurd (none-some whole.up (sym down ∙ whole.was_up))
  run-same one_run phase node a b s old new other_old other_new lines other single only f g q r u v (inr (inl whole)) (inl (down, is, left, same)) = absurd (none-some whole.up (sym down ∙ whole.was_up))
  run-same one_run phase node a b s old new other_old other_new lines other single only f g q r u v (inr (inr unrun)) two = absurd (never-unrun phase node a s old new lines only q unrun)
  run-same one_run phase node a b s old new other_old other_new lines other single only f g q r u v one (inr (inr unrun)) = absurd (never-unrun phase node b s other_old other_new other only r unrun)
  run-same one_run phase node a b s old new other_old other_new lines other single only f g q r u v (inr (inl one)) (inr (inl two)) =
      let up : one.up ≡ two.up = some_same one.up two.up (sym one.was_up ∙ two.was_up) in
      let first = run-ended phase node a s old new lines single only f q u one in
      let second = run-ended phase node b s other_old other_new other single only g r v two in
      let outcomes : AreSameOutcomes one.outcomes two.outcomes = one_run config phase two.up.epoch (items_of phase) s.list s.list s.map one.outcomes two.outcomes refl
      (subst (λ (x : Up). HaveEnded config phase x.epoch (items_of phase) s.list s.map one.outcomes) up first.0) second.0 in
      let left : Candidate = with_outcomes phase one.up.epoch one.outcomes s in
      let same : left ≡ with_outcomes phase two.up.epoch two.outcomes s = ap (λ (x : Up). with_outcomes phase x.epoch one.outcomes s) up ∙ ap (λ l. with_records phase two.up.epoch l s) (records_same one.outcomes two.outcomes outcomes) in (
        alike lines (run_lines config one.outcomes) one.printed ∙ run-alike config one.outcomes two.outcomes outcomes ∙ sym (alike other (run_lines config two.outcomes) two.printed),
        same-node a b (one.state ∙ sym two.state) (first.1 ∙ ap (λ (o : Candidate). Some (o ∷ o ∷ [])) same ∙ sym second.1),
        (left, (left ∷ left ∷ [], first.1, (refl, (refl, tt)))),
      )

  list-same : (file : ℕ) (node a b : Node) (s : Candidate) (old new other_old other_new : List (Fuse D)) (lines other : List Line) → AreOnly node.candidates s → NoneRose faults old new → NoneRose faults other_old other_new
      → Lists held faults config file node old lines a new → Lists held faults config file node other_old other b other_new → Same lines other a b
  list-same file node a b s old new other_old other_new lines other only q r (inl (down, is, left, same)) (inl (down_too, is_too, left_too, same_too)) =
      (alike lines other (is ∙ sym is_too), left ∙ sym left_too, still-only node a s left only)
  list-same file node a b s old new other_old other_new lines other only q r (inl (down, is, left, same)) (inr (up, left_too, hold, how)) = absurd (up down)
  list-same file node a b s old new other_old other_new lines other only q r (inr (up, left, hold, how)) (inl (down, is, left_too, same)) = absurd (up down)
  list-same file node a b s old new other_old other_new lines other only q r (inr (up, left, hold, inr failed)) second = absurd (q failed.0 failed.1.1)
  list-same file node a b s old new other_old other_new lines other only q r (inr (up, left, hold, inl one)) (inr (up_too, left_too, hold_too, inr failed)) = absurd (r failed.0 failed.1.1)
  list-same file node a b s old new other_old other_new lines other only q r (inr (up, left, hold, inl one)) (inr (up_too, left_too, hold_too, inl two)) =
      let entries = IsListing-unique s.map file one.0 two.0 (listed held faults config s node.candidates file old one.0 only one.1) (listed held faults config s node.candidates file other_old two.0 only two.1) in
      (alike lines other (one.2 ∙ ap (λ e. listed_lines (file_name_of config file) e) entries ∙ sym two.2), left ∙ sym left_too, still-only node a s left only)

  lose-same : (volume : ℕ) (node a b : Node) (s : Candidate) (old new other_old other_new : List (Fuse D)) (lines other : List Line) → AreOnly node.candidates s → NoneRose faults old new → NoneRose faults other_old other_new
      → Loses held faults config volume node old lines a new → Loses held faults config volume node other_old other b other_new → Same lines other a b
  lose-same volume node a b s old new other_old other_new lines other only q r (leaves, inr (failed, left)) two = absurd (q failed.0 failed.1.1)
  lose-same volume node a b s old new other_old other_new lines other only q r (leaves, inl one) (leaves_too, inr (failed, left)) = absurd (r failed.0 failed.1.1)
  lose-same volume node a b s old new other_old other_new lines other only q r (leaves, inl (is, gone, left)) (leaves_too, inl (is_too, gone_too, left_too)) =
      (alike lines other (is ∙ sym is_too), left ∙ sym left_too, (with_lost config volume s, subst (λ (n : Node). AreOnly n.candidates (with_lost config volume s)) (sym left) (loss-only config volume s node.candidates only)))

  at-sound : AreSound held → (o : Option (Fuse D)) (n : ℕ) (file : File) → option_map_or (λ fuse. held (device_of fuse)) o (λ m. None) n ≡ Some file → IsSound file
  at-sound sound None n file is = absurd (none-some file is)
  at-sound sound (Some fuse) n file is = sound (device_of fuse) n file is

  synced-image : AreSound held → (devices : List (Fuse D)) (number : ℕ) → Leaves (held_at held devices number) (λ n. option_map synced (held_at held devices number n))
  synced-image sound devices number = image-synced (held_at held devices number) (at-sound sound (slice_get devices number))

  -- where no dump is there no rollforward is whole: what is held, once it is synced, is an image of itself, with the label that was read
  never-rolled : AreSound held → (volume : ℕ) (node after : Node) (old new : List (Fuse D)) (lines : List Line) → IsSurelyLost (held_at held old (dump_device volume)) → RollsWhole held config volume node old lines after new → ⊥
  never-rolled sound volume node after old new lines none whole =
      let label = whole.answered.rolls.read.dumped.1.1.label_file in
      (none (λ n. option_map synced (held_at held old (dump_device volume) n)) (synced-image sound old (dump_device volume)) (synced label.0) (ap (option_map synced) label.1)).1 label.2.gate

  synced-before : (o : Option File) (image : File) → option_map synced o ≡ Some image → (file : File) × (o ≡ Some file) × (file.bytes ≡ image.bytes)
  synced-before None image is = absurd (none-some image is)
  synced-before (Some file) image is = (file, refl, ap (λ (f : File). f.bytes) (some_same (synced file) image is))

  -- and where one is, its label stands
  never-without : AreSound held → (volume : ℕ) (devices : List (Fuse D)) → IsSurelyDumped config volume (held_at held devices (dump_device volume)) → IsLost (held_at held devices (dump_device volume)) → ⊥
  never-without sound volume devices there lost =
      let label = (there (λ n. option_map synced (held_at held devices (dump_device volume) n)) (synced-image sound devices (dump_device volume))).1.1.label_file in
      let before = synced-before (held_at held devices (dump_device volume) 1) label.0 label.1 in
      lost before.0 before.1 (ap (λ bytes. slice_index bytes 0) before.2 ∙ label.2.gate)

  -- one that is refused, and has met no failing device, is so by what the node knows of the volume
  abbrev pub refused_line : ℕ → Bool → Line
  refused_line volume true = NoDump (volume_name config volume)
  refused_line volume false = NotLost (volume_name config volume)

  abbrev pub IsPlain : ℕ → Node → List (Fuse D) → List (Fuse D) → List Line → Node → Type 0
  IsPlain volume node old new lines after = (up : Up) × (node.state.up ≡ Some up) × (lines ≡ refused_line volume (is_lost_volume up.lost volume) ∷ []) × (after ≡ node) × HoldSame held old new

  refused-plain : (volume : ℕ) (node after : Node) (s : Candidate) (old new : List (Fuse D)) (lines : List Line) → AreOnly node.candidates s → NoneRose faults old new → RollsNot held faults config volume node old lines after new → IsPlain volume node old new lines after
  refused-plain volume node after s old new lines only quiet refused = by refused.error refused.why refused.is_line refused.unwritten refused.refused
    where
      plain : (lost : Bool) → is_lost_volume refused.up.lost volume ≡ lost → refused.line ≡ refused_line volume lost → after ≡ node → HoldSame held old new → IsPlain volume node old new lines after
      plain lost flag is left same = (refused.up, refused.was_up, refused.printed ∙ ap (λ l. l ∷ []) (is ∙ ap (refused_line volume) (sym flag)), left, same)

      held-on : (error : RollError) → (IsFailure error → ⊥) → IsFailure error ⊎ HoldSame held old new → HoldSame held old new
      held-on error never either = ⊎_elim (λ failed. absurd (never failed)) (λ same. same) either

      by : (error : RollError) → IsUnrolledFor faults config volume node.candidates refused.up old new error → IsRollLine config volume error refused.line → IsFailure error ⊎ HoldSame held old new → after ≡ unrolled_node volume error node
          → IsPlain volume node old new lines after
      by roll.NotLost why is unwritten left = plain false why is left (held-on roll.NotLost (λ f. f) unwritten)
      by roll.NoDump why is unwritten left = plain true why is left (held-on roll.NoDump (λ f. f) unwritten)
      by (roll.Failed device) why is unwritten left = absurd (quiet device why.1)
      by (roll.Damaged device damage) why is unwritten left = absurd (none-some only.0 (sym why ∙ only.1))
      by roll.NoMemory why is unwritten left = absurd why

  -- where one of the two is whole, the other one is
  never-mixed : AreSound held → (volume : ℕ) (node a b : Node) (s : Candidate) (old new other_old other_new : List (Fuse D)) (lines other : List Line) (dumped : ℕ → Bool) → AreOnly node.candidates s → NoneRose faults other_old other_new
      → AreDumpedAs held config dumped old → AreDumpedAs held config dumped other_old → RollsWhole held config volume node old lines a new → RollsNot held faults config volume node other_old other b other_new → ⊥
  never-mixed sound volume node a b s old new other_old other_new lines other dumped only quiet so so_too whole refused = of (dumped volume) (so volume whole.declared) (so_too volume whole.declared)
    where
      by : (error : RollError) → IsUnrolledFor faults config volume node.candidates refused.up other_old other_new error → TellsRoll config volume (held_at held other_old) error → IsSurelyDumped config volume (held_at held other_old (dump_device volume)) → ⊥
      by roll.NotLost why answered there =
          let up : whole.up ≡ refused.up = some_same whole.up refused.up (sym whole.was_up ∙ refused.was_up) in
          let never : true ≡ false = sym whole.was_lost ∙ ap (λ (u : Up). is_lost_volume u.lost volume) up ∙ why in cc never
      by roll.NoDump why answered there = never-without sound volume other_old there answered.1
      by (roll.Failed device) why answered there = quiet device why.1
      by (roll.Damaged device damage) why answered there = none-some only.0 (sym why ∙ only.1)
      by roll.NoMemory why answered there = why

      of : (d : Bool) → IsDumpedAs config volume d (held_at held old (dump_device volume)) → IsDumpedAs config volume d (held_at held other_old (dump_device volume)) → ⊥
      of true there there_too = by refused.error refused.why refused.answered there_too
      of false none none_too = never-rolled sound volume node a old new lines none whole

  roll-same : AreSound held → (volume : ℕ) (node a b : Node) (s : Candidate) (old new other_old other_new : List (Fuse D)) (lines other : List Line) (dumped : ℕ → Bool) → AreOnly node.candidates s → NoneRose faults old new → NoneRose faults other_old other_new
      → AreDumpedAs held config dumped old → AreDumpedAs held config dumped other_old → Rolls held faults config volume node old lines a new → Rolls held faults config volume node other_old other b other_new → Same lines other a b
  roll-same sound volume node a b s old new other_old other_new lines other dumped only q r so so_too (inl (down, is, left, same)) (inl (down_too, is_too, left_too, same_too)) =
      (alike lines other (is ∙ sym is_too), left ∙ sym left_too, still-only node a s left only)
  roll-same sound volume node a b s old new other_old other_new lines other dumped only q r so so_too (inl (down, is, left, same)) (inr (leaves, inl whole)) = absurd (none-some whole.up (sym down ∙ whole.was_up))
  roll-same sound volume node a b s old new other_old other_new lines other dumped only q r so so_too (inl (down, is, left, same)) (inr (leaves, inr refused)) = absurd (none-some refused.up (sym down ∙ refused.was_up))
  roll-same sound volume node a b s old new other_old other_new lines other dumped only q r so so_too (inr (leaves, inl whole)) (inl (down, is, left, same)) = absurd (none-some whole.up (sym down ∙ whole.was_up))
  roll-same sound volume node a b s old new other_old other_new lines other dumped only q r so so_too (inr (leaves, inr refused)) (inl (down, is, left, same)) = absurd (none-some refused.up (sym down ∙ refused.was_up))
  roll-same sound volume node a b s old new other_old other_new lines other dumped only q r so so_too (inr (leaves, inl whole)) (inr (leaves_too, inr refused)) =
      absurd (never-mixed sound volume node a b s old new other_old other_new lines other dumped only r so so_too whole refused)
  roll-same sound volume node a b s old new other_old other_new lines other dumped only q r so so_too (inr (leaves, inr refused)) (inr (leaves_too, inl whole)) =
      absurd (never-mixed sound volume node b a s other_old other_new old new other lines dumped only q so_too so whole refused)
  roll-same sound volume node a b s old new other_old other_new lines other dumped only q r so so_too (inr (leaves, inl one)) (inr (leaves_too, inl two)) =
      let name = volume_name config volume in (
        alike lines (Rolled name one.next ∷ []) one.printed ∙ sym (alike other (Rolled name two.next ∷ []) two.printed),
        one.rolled ∙ sym two.rolled,
        (with_back volume s, subst (λ (n : Node). AreOnly n.candidates (with_back volume s)) (sym one.rolled) (roll-only volume s node.candidates only)),
      )
  roll-same sound volume node a b s old new other_old other_new lines other dumped only q r so so_too (inr (leaves, inr one)) (inr (leaves_too, inr two)) =
      let first = refused-plain volume node a s old new lines only q one in
      let second = refused-plain volume node b s other_old other_new other only r two in
      let up : first.0 ≡ second.0 = some_same first.0 second.0 (sym first.1 ∙ second.1) in
      (alike lines other (first.2 ∙ ap (λ (u : Up). refused_line volume (is_lost_volume u.lost volume) ∷ []) up ∙ sym second.2), first.3 ∙ sym second.3, still-only node a s first.3 only)

  -- what an action that makes no dump keeps
  dumped-kept : (dumped : ℕ → Bool) (old new : List (Fuse D)) → KeepsDumps held config old new → AreDumpedAs held config dumped old → AreDumpedAs held config dumped new
  dumped-kept dumped old new keeps so volume declared = of (dumped volume) (so volume declared)
    where
      of : (d : Bool) → IsDumpedAs config volume d (held_at held old (dump_device volume)) → IsDumpedAs config volume d (held_at held new (dump_device volume))
      of true there = keeps.kept volume declared there
      of false none = keeps.none volume declared none

  dumped-held : (dumped : ℕ → Bool) (old new : List (Fuse D)) → HoldSame held old new → AreDumpedAs held config dumped old → AreDumpedAs held config dumped new
  dumped-held dumped old new same = dumped-kept dumped old new (dumps-same held config old new (λ volume declared. ap (λ (h : ℕ → Held). h (dump_device volume)) (held-same held old new same)))

  -- a loss takes away what is on the volume's device
  dumped-lost : (lost : ℕ) (dumped : ℕ → Bool) (old new : List (Fuse D)) → SameBut (volume_device lost) old new → DeviceAt (λ d. IsEmptied (held d)) new (volume_device lost) → AreDumpedAs held config dumped old
      → AreDumpedAs held config (λ volume. if dump_device volume == volume_device lost then false else dumped volume) new
  dumped-lost lost dumped old new same (fuse, is, emptied) so volume declared = of (dump_device volume == volume_device lost) refl
    where
      of : (here : Bool) → (dump_device volume == volume_device lost) ≡ here → IsDumpedAs config volume (if here then false else dumped volume) (held_at held new (dump_device volume))
      of true here =
          let own : IsEmptied (held_at held new (volume_device lost)) = subst IsEmptied (held-is held new (volume_device lost) fuse is) emptied in
          subst (λ n. IsSurelyLost (held_at held new n)) (sym (eqb-true (dump_device volume) (volume_device lost) here)) (cleared-lost (held_at held new (volume_device lost)) (λ file within. own file))
      of false elsewhere =
          let other : dump_device volume ≢ volume_device lost = λ here. let there : true ≡ false = sym (eq-eqb (dump_device volume) (volume_device lost) here) ∙ elsewhere in cc there in
          subst (IsDumpedAs config volume (dumped volume)) (sym (ap (λ o. option_map_or (λ f. held (device_of f)) o (λ m. None)) (same (dump_device volume) other))) (so volume declared)

  -- a single run makes the dumps that are among its items
  dumped-run : (phase : Phase) (node after : Node) (s : Candidate) (old new : List (Fuse D)) (lines : List Line) (dumped : ℕ → Bool) → IsSingle phase → AreOnly node.candidates s → NoneFalls faults old new → NoneRose faults old new → AreUnlimited lines
      → RunsWhole held faults config phase node old lines after new → AreDumpedAs held config dumped old → AreDumpedAs held config (with_dumps phase (up_for config phase node.state) dumped) new
  dumped-run phase node after s old new lines dumped single only falls quiet unlimited run so volume declared =
      subst (λ o. IsDumpedAs config volume (with_dumps phase o dumped volume) now) (sym run.was_up) (of (dumped volume) (has_dump_of volume (items_of phase)) refl (so volume declared))
    where
      now : Held
      now = held_at held new (dump_device volume)

      line : (l : Volume) × IsNumber config.volumes volume l
      line = number-at config.volumes volume declared.above declared.below

      goes : DumpsGoOn held config phase run.outcomes old new volume
      goes = run.dumps (λ unknown. none-some only.0 (sym unknown ∙ only.1)) volume line.0 line.1

      of : (d some : Bool) → has_dump_of volume (items_of phase) ≡ some → IsDumpedAs config volume d (held_at held old (dump_device volume)) → IsDumpedAs config volume (d || some) now
      of true some is there = goes.kept there
      of false true is none =
          let ended = run-ended phase node after s old new lines single only falls quiet unlimited run in
          let made = dump-told config phase run.up.epoch (items_of phase) s.list s.map run.outcomes ended.0 volume is in
          goes.made made.0 made.1 made.2 made.3
      of false false is none = goes.none (worker-dumps volume phase.workers single is) none

  -- a rollforward writes the device of its volume alone, which has no dumps
  dumped-rolled : (volume : ℕ) (old new : List (Fuse D)) (dumped : ℕ → Bool) → IsValidConfig config → IsDeclared config.volumes volume → LeavesRolled held config volume old new → AreDumpedAs held config dumped old → AreDumpedAs held config dumped new
  dumped-rolled volume old new dumped valid declared leaves =
      dumped-kept dumped old new (dumps-same held config old new (λ v there. leaves.same (dump_device v) (λ is. let few = valid.volumes.few in omega (arith, is, few, there.above, declared.below))))

  dumped-on : AreSound held → IsValidConfig config → (done : Action) (node after : Node) (s : Candidate) (old new : List (Fuse D)) (lines : List Line) (dumped : ℕ → Bool) → IsSingleAction done → AreOnly node.candidates s → NoneFalls faults old new
      → NoneRose faults old new → AreUnlimited lines → Does held faults config done node old lines after new → AreDumpedAs held config dumped old → AreDumpedAs held config (dumped_behind config done node dumped) new
  dumped-on sound valid action.Format node after s old new lines dumped single only f q u (inl (is, left, gone)) so = dumps-cleared held config new gone
  dumped-on sound valid action.Format node after s old new lines dumped single only f q u (inr (failed, left)) so = absurd (q failed.0 failed.1.1)
  dumped-on sound valid (action.Recover kill) node after s old new lines dumped single only f q u (inl (down, is, left, same)) so = subst (AreDumpedAs held config dumped) (sym same) so
  dumped-on sound valid (action.Recover kill) node after s old new lines dumped single only f q u (inr (inl (formatted, whole))) so = dumped-kept dumped old new whole.dumps so
  dumped-on sound valid (action.Recover kill) node after s old new lines dumped single only f q u (inr (inr (formatted, refused))) so = absurd (never-refused node after s old new lines only q u refused)
  dumped-on sound valid (action.Run phase) node after s old new lines dumped single only f q u (inl (down, is, left, same)) so =
      subst (λ o. AreDumpedAs held config (with_dumps phase o dumped) new) (sym down) (subst (AreDumpedAs held config dumped) (sym same) so)
  dumped-on sound valid (action.Run phase) node after s old new lines dumped single only f q u (inr (inl whole)) so = dumped-run phase node after s old new lines dumped single only f q u whole so
  dumped-on sound valid (action.Run phase) node after s old new lines dumped single only f q u (inr (inr unrun)) so = absurd (never-unrun phase node after s old new lines only q unrun)
  dumped-on sound valid (action.Lose volume) node after s old new lines dumped single only f q u (leaves, inl (is, gone, left)) so = dumped-lost volume dumped old new leaves.others gone so
  dumped-on sound valid (action.Lose volume) node after s old new lines dumped single only f q u (leaves, inr (failed, left)) so = absurd (q failed.0 failed.1.1)
  dumped-on sound valid (action.Rollforward volume kill) node after s old new lines dumped single only f q u (inl (down, is, left, same)) so = subst (AreDumpedAs held config dumped) (sym same) so
  dumped-on sound valid (action.Rollforward volume kill) node after s old new lines dumped single only f q u (inr (leaves, inl whole)) so = dumped-rolled volume old new dumped valid whole.declared leaves so
  dumped-on sound valid (action.Rollforward volume kill) node after s old new lines dumped single only f q u (inr (leaves, inr refused)) so = dumped-held dumped old new (refused-plain volume node after s old new lines only q refused).4 so
  dumped-on sound valid (action.List file) node after s old new lines dumped single only f q u (inl (down, is, left, same)) so = subst (AreDumpedAs held config dumped) (sym same) so
  dumped-on sound valid (action.List file) node after s old new lines dumped single only f q u (inr (up, left, hold, how)) so = dumped-held dumped old new hold so

  does-same : AreSound held → OneRunLaw → (done : Action) (node a b : Node) (s : Candidate) (old new other_old other_new : List (Fuse D)) (lines other : List Line) (dumped : ℕ → Bool) → IsSingleAction done → AreOnly node.candidates s → NoneFalls faults old new
      → NoneFalls faults other_old other_new → NoneRose faults old new → NoneRose faults other_old other_new → AreUnlimited lines → AreUnlimited other → AreDumpedAs held config dumped old → AreDumpedAs held config dumped other_old
      → Does held faults config done node old lines a new → Does held faults config done node other_old other b other_new → Same lines other a b
  does-same sound one_run action.Format node a b s old new other_old other_new lines other dumped single only f g q r u v so so_too (inl one) (inl two) =
      (alike lines other (one.0 ∙ sym two.0), one.1 ∙ sym two.1, still-only formatted_node a formatted_candidate one.1 (formatted_candidate ∷ [], refl, (refl, tt)))
  does-same sound one_run action.Format node a b s old new other_old other_new lines other dumped single only f g q r u v so so_too (inl one) (inr (failed, left)) = absurd (r failed.0 failed.1.1)
  does-same sound one_run action.Format node a b s old new other_old other_new lines other dumped single only f g q r u v so so_too (inr (failed, left)) second = absurd (q failed.0 failed.1.1)
  does-same sound one_run (action.Recover kill) node a b s old new other_old other_new lines other dumped single only f g q r u v so so_too one two = recover-same node a b s old new other_old other_new lines other only q r u v one two
  does-same sound one_run (action.Run phase) node a b s old new other_old other_new lines other dumped single only f g q r u v so so_too one two =
      run-same one_run phase node a b s old new other_old other_new lines other single only f g q r u v one two
  does-same sound one_run (action.Lose volume) node a b s old new other_old other_new lines other dumped single only f g q r u v so so_too one two = lose-same volume node a b s old new other_old other_new lines other only q r one two
  does-same sound one_run (action.Rollforward volume kill) node a b s old new other_old other_new lines other dumped single only f g q r u v so so_too one two =
      roll-same sound volume node a b s old new other_old other_new lines other dumped only q r so so_too one two
  does-same sound one_run (action.List file) node a b s old new other_old other_new lines other dumped single only f g q r u v so so_too one two = list-same file node a b s old new other_old other_new lines other only q r one two

  -- ALL STEPS

  told-same : AreSound held → OneRunLaw → IsValidConfig config → (actions : List Action) (node a b : Node) (s : Candidate) (old new other_old other_new : List (Fuse D)) (lines other : List Line) (dumped : ℕ → Bool) → AreSingle actions
      → AreOnly node.candidates s → AreDumpedAs held config dumped old → AreDumpedAs held config dumped other_old → ToldBy held faults config actions node old lines a new → NoneRose faults old new → AreUnlimited lines
      → ToldBy held faults config actions node other_old other b other_new → NoneRose faults other_old other_new → AreUnlimited other → AreSameLines lines other
  told-same sound one_run valid [] node a b s old new other_old other_new lines other dumped singles only so so_too one q u two r v = alike lines other (one.0 ∙ sym two.0)
  told-same sound one_run valid (done ∷ rest) node a b s old new other_old other_new lines other dumped singles only so so_too (first, more, middle, between, does, stands, counts, told, parts) q u
      (others, rest_of, centre, within, does_too, stands_too, counts_too, told_too, parts_too) r v =
      let unlimited = subst AreUnlimited parts u in
      let unlimited_too = subst AreUnlimited parts_too v in
      let later = told-falls held faults config rest middle a between new more told in
      let later_too = told-falls held faults config rest centre b within other_new rest_of told_too in
      let quiet : NoneRose faults old between = λ device rose. q device (rose-later faults old between new device later rose) in
      let quiet_too : NoneRose faults other_old within = λ device rose. r device (rose-later faults other_old within other_new device later_too rose) in
      let same = does-same sound one_run done node middle centre s old between other_old within first others dumped singles.0 only counts.falls counts_too.falls quiet quiet_too
      (front-unlimited first more unlimited) (front-unlimited others rest_of unlimited_too) so so_too does does_too in
      let further = told-same sound one_run valid rest middle a b same.2.0 between new within other_new more rest_of (dumped_behind config done node dumped) singles.1 same.2.1
      (dumped-on sound valid done node middle s old between first dumped singles.0 only counts.falls quiet (front-unlimited first more unlimited) does so)
      (dumped-on sound valid done node centre s other_old within others dumped singles.0 only counts_too.falls quiet_too (front-unlimited others rest_of unlimited_too) does_too so_too) told
      (λ device rose. q device (rose-from faults old between new device counts.falls later rose)) (back-unlimited first more unlimited)
      (subst (λ n. ToldBy held faults config rest n within rest_of b other_new) (sym same.1) told_too)
      (λ device rose. r device (rose-from faults other_old within other_new device counts_too.falls later_too rose)) (back-unlimited others rest_of unlimited_too) in
      alike lines (first ++ more) parts ∙ both-alike first others more rest_of same.0 further ∙ sym (alike other (others ++ rest_of) parts_too)

  -- Two outputs of one script that formats first and whose runs are single are the same, apart from positions, where no device has failed, and no line tells of a limit.
  pub one_output : OneRunLaw → AreSound held → IsValidConfig config → OneOutput held faults config
  one_output one_run sound valid actions lines other singles one two = by one.candidates two.candidates one.left two.left one.old one.new two.old two.new one.told one.fresh one.unlimited two.told two.fresh two.unlimited
    where
      formatted : (node after : Node) (old new : List (Fuse D)) (lines : List Line) → NoneRose faults old new → Formats held faults config node old lines after new
          → (lines ≡ Formatted ∷ []) × (after ≡ formatted_node) × AreDumpedAs held config (λ volume. false) new
      formatted node after old new lines quiet (inl (is, left, gone)) = (is, left, dumps-cleared held config new gone)
      formatted node after old new lines quiet (inr (failed, left)) = absurd (quiet failed.0 failed.1.1)

      by : (candidates other_candidates : Option (List Candidate)) (after other_after : Node) (old new other_old other_new : List (Fuse D)) → ToldBy held faults config (action.Format ∷ actions) (opening candidates) old lines after new → NoneRose faults old new
          → AreUnlimited lines → ToldBy held faults config (action.Format ∷ actions) (opening other_candidates) other_old other other_after other_new → NoneRose faults other_old other_new → AreUnlimited other → AreSameLines lines other
      by candidates other_candidates after other_after old new other_old other_new (first, more, middle, between, does, stands, counts, told, parts) q u (others, rest_of, centre, within, does_too, stands_too, counts_too, told_too, parts_too) r v =
          let later = told-falls held faults config actions middle after between new more told in
          let later_too = told-falls held faults config actions centre other_after within other_new rest_of told_too in
          let one = formatted (opening candidates) middle old between first (λ device rose. q device (rose-later faults old between new device later rose)) does in
          let two = formatted (opening other_candidates) centre other_old within others (λ device rose. r device (rose-later faults other_old within other_new device later_too rose)) does_too in
          let unlimited = subst AreUnlimited parts u in
          let unlimited_too = subst AreUnlimited parts_too v in
          let further = told-same sound one_run valid actions formatted_node after other_after formatted_candidate between new within other_new more rest_of (λ volume. false) singles (formatted_candidate ∷ [], refl, (refl, tt)) one.2 two.2
          (subst (λ n. ToldBy held faults config actions n between more after new) one.1 told) (λ device rose. q device (rose-from faults old between new device counts.falls later rose)) (back-unlimited first more unlimited)
          (subst (λ n. ToldBy held faults config actions n within rest_of other_after other_new) two.1 told_too) (λ device rose. r device (rose-from faults other_old within other_new device counts_too.falls later_too rose))
          (back-unlimited others rest_of unlimited_too) in
          alike lines (first ++ more) parts ∙ both-alike first others more rest_of (alike first others (one.0 ∙ sym two.0)) further ∙ sym (alike other (others ++ rest_of) parts_too)

-- So any other output that the law lets a call print is this one, apart from positions, and just this one where it tells none.
pub the_output : {D : Type 0} (held : D → Held) (faults : D → ℕ) (one_run : OneRunLaw) (sound : AreSound held) (script : Script) → IsValidConfig script.config → (old new : List (Fuse D)) (sink : Type 0) (before after : List ℕ)
    → sink → FormatsFirst script → AreSingle script.actions → NoneRose faults old new → (how : Status) → how ≡ status.Done → Tells held faults script None how old new sink before after → IsTheOutput held faults script old new before after
the_output held faults one_run sound script valid old new sink before after tells (rest, first) single none how done told = record {
  lines = whole.lines;
  end = whole.left;
  told = whole.told;
  given = whole.given tells;
  only = others;
  exact = λ unlimited plain other output. lines-exact whole.lines other (others unlimited other output) plain;
}
  where
    whole : EndsWhole held faults script.config (opening None) script.actions old new sink before after
    whole = subst (λ s. Tells held faults script None s old new sink before after) done told

    own : AreUnlimited whole.lines → IsOutput held faults script.config script.actions whole.lines
    own unlimited = record { candidates = None; old = old; new = new; left = whole.left; told = whole.told; fresh = none; unlimited = unlimited }

    others : AreUnlimited whole.lines → (other : List Line) → IsOutput held faults script.config script.actions other → AreSameLines other whole.lines
    others unlimited other output =
        one_output held faults script.config one_run sound valid rest other whole.lines (subst AreSingle first single).1
        (subst (λ actions. IsOutput held faults script.config actions other) first output) (subst (λ actions. IsOutput held faults script.config actions whole.lines) first (own unlimited))

-- of a script whose actions are all told no count of faults falls
pub whole-falls : {D : Type 0} (held : D → Held) (faults : D → ℕ) (script : Script) (candidates : Option (List Candidate)) (old new : List (Fuse D)) (sink : Type 0) (before after : List ℕ) (how : Status) → how ≡ status.Done
    → Tells held faults script candidates how old new sink before after → NoneFalls faults old new
whole-falls held faults script candidates old new sink before after how done told = told-falls held faults script.config script.actions (opening candidates) whole.left old new whole.lines whole.told
  where
    whole : EndsWhole held faults script.config (opening candidates) script.actions old new sink before after
    whole = subst (λ s. Tells held faults script candidates s old new sink before after) done told
